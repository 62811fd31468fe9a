-- The sets that a solver has at one moment, and what is told of them when it halts.
use Rattle.std.specs.Prelude.{◌≡◌, ℕ, suc, ◌≤◌, length}
use Rattle.spec_model.specs.Games.{GameData}
use Rattle.spec_model.specs.Steps.{states_of}
use Rattle.spec_model.specs.Sets.{StateSet, no_states, both, either, rest, pre_env}
use Rattle.gr1_law.specs.Layers.{goal_set, goal_sets, assumption_set, assumption_sets, union}
use Rattle.gr1_law.specs.EnvLayers.{delay, EnvLayerSets, AreEnvLayers}
use Rattle.gr1_sys.specs.Solution.{iterate, meet}
use Rattle.gr1_sys.specs.Moment.{IsGoal, IsAssumption}

-- ---- values of Y

-- The value of Y that follows one, for the hold of a goal above a layer: the states of the last iterate for each assumption,
-- where as many as there are states suffice.
abbrev pub following : GameData → (lower : StateSet) → ℕ → StateSet → StateSet
following g lower j y = meet g (λ i. delay g lower y j i (length (states_of g))) (length (assumption_sets g))

-- a value of Y: an iterate of that equation, from all states down
abbrev pub IsValueOfY : GameData → (lower : StateSet) → ℕ → StateSet → Type 0
IsValueOfY g lower j y = (n : ℕ) × (y ≡ iterate g (following g lower j) n)

-- ---- one moment

-- the layers, and for the hold of each goal in each layer one value of Y, numbered as the holds are
pub record Moment : Type 0 where
  pub layers : EnvLayerSets
  pub value : ℕ → ℕ → StateSet

-- The layers are the game's. Each value is one of the hold's equation, and all but at most one are the holds themselves.
pub record IsMoment (g : GameData) (m : Moment) : Type 0 where
  pub layers : AreEnvLayers g m.layers
  pub values : (a j : ℕ) → IsGoal g j → IsValueOfY g (m.layers.z a) j (m.value (suc a) j)
  pub others : (a j : ℕ) × ((b i : ℕ) → (b ≡ a → i ≡ j → ⊥) → m.value (suc b) i ≡ m.layers.y (suc b) i)

module _ (g : GameData) (m : Moment) where
  -- what the equations of a hold above the layer numbered a rest on: the goal is false, or the next state is forced into the layer
  abbrev pub base_at : (a j : ℕ) → StateSet
  base_at a j = either (rest g (goal_set g j)) (pre_env g (m.layers.z a))

  -- what they cover for the value of Y: from there the next state is forced into the value too
  abbrev pub cover_at : (a j : ℕ) → StateSet
  cover_at a j = both (pre_env g (m.value (suc a) j)) (base_at a j)

  -- their iterates, for that value
  abbrev pub delay_at : (a j i r : ℕ) → StateSet
  delay_at a j i r = delay g (m.layers.z a) (m.value (suc a) j) j i r

-- An iterate of the moment: a layer, a value of Y, or an iterate of an inner equation for it.
pub data IsIterate (g : GameData) (m : Moment) (t : StateSet) : Type 0 where
  layer : (a : ℕ) → t ≡ m.layers.z a → IsIterate g m t
  value : (a j : ℕ) → IsGoal g j → t ≡ m.value (suc a) j → IsIterate g m t
  delayed : (a j i r : ℕ) → IsGoal g j → IsAssumption g i → t ≡ delay_at g m a j i r → IsIterate g m t

-- A set of the moment: an iterate, a formula of the game, or a part of the right side of an equation at iterates. What
-- belongs to a goal's hold is at the hold's own value of Y.
pub data IsNamed (g : GameData) (m : Moment) (t : StateSet) : Type 0 where
  iterated : IsIterate g m t → IsNamed g m t
  nothing : t ≡ no_states → IsNamed g m t
  goal : (j : ℕ) → IsGoal g j → t ≡ goal_set g j → IsNamed g m t
  miss : (j : ℕ) → IsGoal g j → t ≡ rest g (goal_set g j) → IsNamed g m t
  assumption : (i : ℕ) → IsAssumption g i → t ≡ assumption_set g i → IsNamed g m t
  forced : (u : StateSet) → IsIterate g m u → t ≡ pre_env g u → IsNamed g m t
  based : (a j : ℕ) → IsGoal g j → t ≡ base_at g m a j → IsNamed g m t
  covered : (a j : ℕ) → IsGoal g j → t ≡ cover_at g m a j → IsNamed g m t
  met : (a j i r : ℕ) → IsGoal g j → IsAssumption g i → t ≡ either (pre_env g (delay_at g m a j i r)) (assumption_set g i) → IsNamed g m t
  common : (a j n : ℕ) → IsGoal g j → n ≤ length (assumption_sets g) → t ≡ meet g (λ i. delay_at g m a j i (length (states_of g))) n → IsNamed g m t
  joined : (a n : ℕ) → n ≤ length (goal_sets g) → t ≡ union (m.value (suc a)) n → IsNamed g m t
