-- The greatest set that an equation allows, and the layers for a value of Z, as functions of the game.
use Rattle.std.specs.Prelude.{ℕ, zero, suc, length}
use Rattle.spec_model.specs.Games.{GameData}
use Rattle.spec_model.specs.Steps.{states_of}
use Rattle.spec_model.specs.Sets.{StateSet, no_states, all_states, both}
use Rattle.gr1_law.specs.Layers.{goal_sets, assumption_sets, union, part_value}

-- the iterates of an equation from all states down
abbrev pub iterate : GameData → (StateSet → StateSet) → ℕ → StateSet
iterate g value zero = all_states g
iterate g value (suc n) = value (iterate g value n)

-- the greatest set that an equation allows: as many turns as there are states reach it
unfoldable pub greatest_of : GameData → (StateSet → StateSet) → StateSet
greatest_of g value = iterate g value (length (states_of g))

module _ (g : GameData) (z : StateSet) where
  -- a part of a layer, above a layer
  abbrev pub part_of : (below : StateSet) → (j i : ℕ) → StateSet
  part_of below j i = greatest_of g (part_value g z below j i)

  -- the layer of each rank
  abbrev pub layer_of : ℕ → ℕ → StateSet
  layer_of j zero = no_states
  layer_of j (suc r) = union (part_of (layer_of j r) j) (length (assumption_sets g))

-- the states of all of the sets numbered below n
abbrev pub meet : GameData → (ℕ → StateSet) → ℕ → StateSet
meet g sets zero = all_states g
meet g sets (suc n) = both (meet g sets n) (sets n)

-- the value of Z that follows: the states that are in some layer of each goal, where as many layers as there are states suffice
abbrev pub following : GameData → StateSet → StateSet
following g z = meet g (λ j. layer_of g z j (length (states_of g))) (length (goal_sets g))
