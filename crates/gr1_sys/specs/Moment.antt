-- The sets that a solver has at one moment, and what is told of them when it halts.
use Rattle.std.specs.Prelude.{◌≡◌, ℕ, ◌<◌, ◌≤◌, length}
use Rattle.spec_model.specs.Games.{GameData}
use Rattle.spec_model.specs.Steps.{states_of}
use Rattle.spec_model.specs.Sets.{StateSet, no_states, both, either, rest, pre_sys}
use Rattle.gr1_law.specs.Layers.{goal_set, goal_sets, assumption_set, assumption_sets, union, part_value}
use Rattle.gr1_sys.specs.Solution.{iterate, part_of, layer_of, meet, following}

-- ---- numbers

-- the number of a goal, and of an assumption
abbrev pub IsGoal : GameData → ℕ → Type 0
IsGoal g j = j < length (goal_sets g)

abbrev pub IsAssumption : GameData → ℕ → Type 0
IsAssumption g i = i < length (assumption_sets g)

-- ---- one value of Z

-- a value of Z: an iterate of its equation, from all states down
abbrev pub IsValueOfZ : GameData → StateSet → Type 0
IsValueOfZ g z = (n : ℕ) × (z ≡ iterate g (following g) n)

-- an iterate of the equation of a part, for that value
abbrev pub part_iterate : GameData → StateSet → (j r i n : ℕ) → StateSet
part_iterate g z j r i n = iterate g (part_value g z (layer_of g z j r) j i) n

-- what the parts of a layer have in common: the states that reach the goal, and those from which the next is forced into the layer below
abbrev pub base_of : GameData → StateSet → (j r : ℕ) → StateSet
base_of g z j r = either (pre_sys g (layer_of g z j r)) (both (goal_set g j) (pre_sys g z))

-- An iterate of the moment of that value: the value, a layer, or an iterate of a part.
pub data IsIterate (g : GameData) (z t : StateSet) : Type 0 where
  this_value : t ≡ z → IsIterate g z t
  layer : (j r : ℕ) → IsGoal g j → t ≡ layer_of g z j r → IsIterate g z t
  part : (j r i n : ℕ) → IsGoal g j → IsAssumption g i → t ≡ part_iterate g z j r i n → IsIterate g z t

-- A set of that moment: an iterate, a formula of the game, or a part of the right side of an equation at iterates. A part
-- waits for its own assumption alone, and at its own iterates.
pub data IsNamed (g : GameData) (z t : StateSet) : Type 0 where
  iterated : IsIterate g z t → IsNamed g z t
  nothing : t ≡ no_states → IsNamed g z t
  goal : (j : ℕ) → IsGoal g j → t ≡ goal_set g j → IsNamed g z t
  assumption : (i : ℕ) → IsAssumption g i → t ≡ assumption_set g i → IsNamed g z t
  lapse : (i : ℕ) → IsAssumption g i → t ≡ rest g (assumption_set g i) → IsNamed g z t
  forced : (u : StateSet) → IsIterate g z u → t ≡ pre_sys g u → IsNamed g z t
  reached : (j : ℕ) → IsGoal g j → t ≡ both (goal_set g j) (pre_sys g z) → IsNamed g z t
  based : (j r : ℕ) → IsGoal g j → t ≡ base_of g z j r → IsNamed g z t
  waited : (j r i n : ℕ) → IsGoal g j → IsAssumption g i → t ≡ both (pre_sys g (part_iterate g z j r i n)) (rest g (assumption_set g i)) → IsNamed g z t
  joined : (j r n : ℕ) → IsGoal g j → n ≤ length (assumption_sets g) → t ≡ union (part_of g z (layer_of g z j r) j) n → IsNamed g z t
  common : (n : ℕ) → n ≤ length (goal_sets g) → t ≡ meet g (λ j. layer_of g z j (length (states_of g))) n → IsNamed g z t
