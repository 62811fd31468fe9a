-- The environment's winning states and their layers, as sets given by equations, and the numbers of shifts and denials that
-- they make.
use Rattle.std.specs.Prelude.{◌≡◌, ◌↔◌, ℕ, zero, suc, ◌+◌, ◌<◌, List, length, max, slice_index, sum, IsTrue}
use Rattle.spec_model.specs.Games.{GameData, State}
use Rattle.spec_model.specs.Sets.{StateSet, no_states, both, either, rest, pre_env, IsPartOf}
use Rattle.gr1_law.specs.Layers.{goal_sets, goal_set, assumption_sets, assumption_set, union, IsLeastNumber}

-- ---- delays

-- The value of a hold's equation for one assumption at a set: the goal is false, or the next state is forced into the layer
-- below; and the next state is forced into the hold; and the assumption is true, or the next state is forced into the set.
abbrev pub delay_value : GameData → (lower hold : StateSet) → (j i : ℕ) → StateSet → StateSet
delay_value g lower hold j i t =
    both (either (rest g (goal_set g j)) (pre_env g lower)) (both (pre_env g hold) (either (assumption_set g i) (pre_env g t)))

-- its iterates from nothing up: from the states of rank r the assumption is met within r positions
abbrev pub delay : GameData → (lower hold : StateSet) → (j i : ℕ) → ℕ → StateSet
delay g lower hold j i zero = no_states
delay g lower hold j i (suc r) = delay_value g lower hold j i (delay g lower hold j i r)

-- the state is in some iterate for each assumption
abbrev pub HasDelays : GameData → (lower hold : StateSet) → ℕ → State → Type 0
HasDelays g lower hold j s = (i : ℕ) → i < length (assumption_sets g) → (r : ℕ) × IsTrue (delay g lower hold j i r s)

-- The hold of a goal above a layer: the greatest set that has exactly the states in some iterate for each assumption, where
-- the iterates are those for the set itself.
pub record IsHold (g : GameData) (lower : StateSet) (j : ℕ) (hold : StateSet) : Type 0 where
  pub solves : (s : State) → IsTrue (hold s) ↔ HasDelays g lower hold j s
  pub above : (t : StateSet) → ((s : State) → IsTrue (t s) → HasDelays g lower t j s) → IsPartOf t hold

-- ---- layers

-- The layers: `z a` is the layer numbered a, `y a j` the hold of the goal numbered j above the layer before it, and `x a j i r`
-- the iterate of rank r for that hold and the assumption numbered i. Goals and assumptions count from 0, layers from 1.
pub record EnvLayerSets : Type 0 where
  pub z : ℕ → StateSet
  pub y : ℕ → ℕ → StateSet
  pub x : ℕ → ℕ → ℕ → ℕ → StateSet

-- below the first layer is nothing, and a layer is the union of its goals' holds above the layer before it
pub record AreEnvLayers (g : GameData) (e : EnvLayerSets) : Type 0 where
  pub none_first : e.z 0 ≡ no_states
  pub held : (a j : ℕ) → IsHold g (e.z a) j (e.y (suc a) j)
  pub delays : (a j i r : ℕ) → e.x (suc a) j i r ≡ delay g (e.z a) (e.y (suc a) j) j i r
  pub joined : (a : ℕ) → e.z (suc a) ≡ union (e.y (suc a)) (length (goal_sets g))

-- ---- numbers

-- N: the number of the first layer that equals the next
abbrev pub IsLayerCount : EnvLayerSets → ℕ → Type 0
IsLayerCount e = IsLeastNumber (λ a. e.z a ≡ e.z (suc a))

-- The greatest rank for each assumption, of each goal's hold in the layers 1 to N: the first iterate that equals the next.
pub record AreDelayCounts (g : GameData) (e : EnvLayerSets) (n : ℕ) (counts : ℕ → ℕ → List ℕ) : Type 0 where
  pub counted : (a j : ℕ) → a < n → j < length (goal_sets g) → length (counts (suc a) j) ≡ length (assumption_sets g)
  pub each : (a j i : ℕ) → a < n → j < length (goal_sets g) → i < length (assumption_sets g) →
      IsLeastNumber (λ r. e.x (suc a) j i r ≡ e.x (suc a) j i (suc r)) (slice_index (counts (suc a) j) i)

-- the greatest of the numbers that a function gives below k, and 0 where there is none
abbrev pub most : (ℕ → ℕ) → ℕ → ℕ
most f zero = 0
most f (suc k) = max (most f k) (f k)

-- M: one more than the greatest ranks together, of the layer from 1 to N and the goal for which they are most
abbrev pub denial_count : GameData → (n : ℕ) → (ℕ → ℕ → List ℕ) → ℕ
denial_count g n counts = 1 + most (λ a. most (λ j. sum (counts (suc a) j)) (length (goal_sets g))) n
