-- The layers as functions of the sets that a solver makes first: the states at which each goal is false, and those at which
-- each assumption is true.
use Rattle.std.specs.Prelude.{ℕ, zero, suc, List, length, get_or, map}
use Rattle.spec_model.specs.Games.{GameData}
use Rattle.spec_model.specs.Steps.{below, states_of}
use Rattle.spec_model.specs.Sets.{StateSet, no_states, both, either, pre_env}
use Rattle.gr1_law.specs.Layers.{union}
use Rattle.gr1_sys.specs.Solution.{greatest_of, meet}

-- one of several sets, by its number
abbrev pub at : List StateSet → ℕ → StateSet
at sets i = get_or sets i no_states

module _ (g : GameData) where
  -- The value of an inner equation at a set: the next state is forced into the set, or the assumption is true; and the state
  -- is one that the equation covers.
  abbrev pub rising : (cover asm : StateSet) → StateSet → StateSet
  rising cover asm t = both (either (pre_env g t) asm) cover

  -- its iterates from no states up
  abbrev pub delay_on : (cover asm : StateSet) → ℕ → StateSet
  delay_on cover asm zero = no_states
  delay_on cover asm (suc r) = rising cover asm (delay_on cover asm r)

  -- as many turns as there are states reach the last
  unfoldable pub last_delay_on : (cover asm : StateSet) → StateSet
  last_delay_on cover asm = delay_on cover asm (length (states_of g))

  -- what the equations of a hold cover: from there the next state is forced into the hold
  abbrev pub cover_of : (base hold : StateSet) → StateSet
  cover_of base hold = both (pre_env g hold) base

  -- the value of the hold's equation: the states of the last iterate for each assumption
  abbrev pub hold_value_on : (base : StateSet) → List StateSet → StateSet → StateSet
  hold_value_on base asms y = meet g (λ i. last_delay_on (cover_of base y) (at asms i)) (length asms)

  -- the hold, as the greatest set that equals its own value
  unfoldable pub hold_on : (base : StateSet) → List StateSet → StateSet
  hold_on base asms = greatest_of g (hold_value_on base asms)

  -- where a goal is false, or the next state is forced into the layer below
  abbrev pub base_of : (lower miss : StateSet) → StateSet
  base_of lower miss = either miss (pre_env g lower)

  -- the hold of one goal above a layer, and the layer above it
  abbrev pub hold_over : (lower : StateSet) → (misses asms : List StateSet) → ℕ → StateSet
  hold_over lower misses asms j = hold_on (base_of lower (at misses j)) asms

  abbrev pub layer_over : (lower : StateSet) → (misses asms : List StateSet) → StateSet
  layer_over lower misses asms = union (hold_over lower misses asms) (length misses)

  -- the layers, by number
  abbrev pub layer_on : (misses asms : List StateSet) → ℕ → StateSet
  layer_on misses asms zero = no_states
  layer_on misses asms (suc a) = layer_over (layer_on misses asms a) misses asms

  -- the iterates of ranks 1 to n
  abbrev pub delay_sets : (cover asm : StateSet) → ℕ → List StateSet
  delay_sets cover asm n = map (λ r. delay_on cover asm (suc r)) (below n)
