-- Laws of the environment's layers, each of which the function of its name in src/env_laws.rt proves.
use Rattle.std.specs.Prelude.{◌≡◌, ◌↔◌, ℕ, suc, ◌+◌, ◌*◌, ◌<◌, ◌≤◌, not, List, None, length, IsTrue}
use Rattle.spec_model.specs.Games.{GameData, State}
use Rattle.spec_model.specs.Steps.{states_of}
use Rattle.spec_model.specs.Sets.{StateSet, rest, pre_env, system_forces, environment_forces, IsPartOf}
use Rattle.spec_model.specs.Counts.{IsLeast}
use Rattle.gr1_law.specs.SafeGames.{IsShiftCount, IsDenialCount}
use Rattle.gr1_law.specs.Layers.{LayerSets, IsWinning, goal_sets, assumption_sets}
use Rattle.gr1_law.specs.EnvLayers.{delay_value, IsHold, EnvLayerSets, AreEnvLayers, IsLayerCount, AreDelayCounts, denial_count}

-- ---- the sets are told by their equations

-- There is one hold. It has the states that are, for each assumption, in the least set that equals its own value.
pub record HoldIsTold (g : GameData) (lower : StateSet) (j : ℕ) : Type 0 where
  pub some : (hold : StateSet) × IsHold g lower j hold
  pub same : (hold hold' : StateSet) → IsHold g lower j hold → IsHold g lower j hold' → hold ≡ hold'
  pub least : (hold : StateSet) (x : ℕ → StateSet) → IsHold g lower j hold → ((i : ℕ) → IsLeast (delay_value g lower hold j i) (x i)) →
      (s : State) → IsTrue (hold s) ↔ ((i : ℕ) → i < length (assumption_sets g) → IsTrue (x i s))

-- There are layers, and only these: the holds and iterates at layer 0 alone are free. Each layer is part of the next, and none
-- has more than the one numbered N.
pub record EnvLayersAreTold (g : GameData) : Type 0 where
  pub some : (e : EnvLayerSets) × AreEnvLayers g e
  pub same_z : (e e' : EnvLayerSets) → AreEnvLayers g e → AreEnvLayers g e' → (a : ℕ) → e.z a ≡ e'.z a
  pub same_y : (e e' : EnvLayerSets) → AreEnvLayers g e → AreEnvLayers g e' → (a j : ℕ) → e.y (suc a) j ≡ e'.y (suc a) j
  pub same_x : (e e' : EnvLayerSets) → AreEnvLayers g e → AreEnvLayers g e' → (a j i r : ℕ) → e.x (suc a) j i r ≡ e'.x (suc a) j i r
  pub rises : (e : EnvLayerSets) → AreEnvLayers g e → (a : ℕ) → IsPartOf (e.z a) (e.z (suc a))
  pub last : (e : EnvLayerSets) (n : ℕ) → AreEnvLayers g e → IsLayerCount e n → (a : ℕ) → IsPartOf (e.z a) (e.z n)

-- There is one N, one list of greatest ranks for each hold in the layers up to it, and so one M.
pub record DenialsAreTold (g : GameData) : Type 0 where
  pub some_layers : (e : EnvLayerSets) → AreEnvLayers g e → (n : ℕ) × IsLayerCount e n
  pub same_layers : (e e' : EnvLayerSets) (n n' : ℕ) → AreEnvLayers g e → AreEnvLayers g e' → IsLayerCount e n → IsLayerCount e' n' → n ≡ n'
  pub some_counts : (e : EnvLayerSets) (n : ℕ) → AreEnvLayers g e → (counts : ℕ → ℕ → List ℕ) × AreDelayCounts g e n counts
  pub same_counts : (e e' : EnvLayerSets) (n : ℕ) (counts counts' : ℕ → ℕ → List ℕ) → AreEnvLayers g e → AreEnvLayers g e' →
      AreDelayCounts g e n counts → AreDelayCounts g e' n counts' → (a j : ℕ) → a < n → j < length (goal_sets g) → counts (suc a) j ≡ counts' (suc a) j
  pub same_denials : (e e' : EnvLayerSets) (n : ℕ) (counts counts' : ℕ → ℕ → List ℕ) → AreEnvLayers g e → AreEnvLayers g e' →
      AreDelayCounts g e n counts → AreDelayCounts g e' n counts' → denial_count g n counts ≡ denial_count g n counts'

-- no more layers than states, and M at most one more than the assumptions times the states
abbrev pub DenialsAreFew : GameData → Type 0
DenialsAreFew g =
    (e : EnvLayerSets) (n : ℕ) (counts : ℕ → ℕ → List ℕ) → AreEnvLayers g e → IsLayerCount e n → AreDelayCounts g e n counts →
    (n ≤ length (states_of g)) × (denial_count g n counts ≤ 1 + length (assumption_sets g) * length (states_of g))

-- ---- the two sides

-- The last layer has the states that are not in Z, and no others; and exactly one side forces the first state into its set.
abbrev pub SidesAreDual : GameData → Type 0
SidesAreDual g =
    (z : StateSet) (l : LayerSets) (e : EnvLayerSets) (n : ℕ) → IsWinning g z l → AreEnvLayers g e → IsLayerCount e n →
    (e.z n ≡ rest g z) × (not (system_forces g z None) ≡ environment_forces g (e.z n) None)

-- ---- where nothing recurs

-- A layer has the states from which the environment forces the next one into the layer before it, and the last is the least
-- set that equals its own `pre_env`. N is the least number of positions after which no more states are lost; M is 2, or 1
-- where N is 0.
pub record LossIsASpecialCase (g : GameData) (e : EnvLayerSets) (n m : ℕ) : Type 0 where
  pub layers : (a : ℕ) → e.z (suc a) ≡ pre_env g (e.z a)
  pub last : IsLeast (pre_env g) (e.z n)
  pub shifts : IsShiftCount g n
  pub denials : IsDenialCount n m

abbrev pub LosingIsASpecialCase : GameData → Type 0
LosingIsASpecialCase g =
    (e : EnvLayerSets) (n : ℕ) (counts : ℕ → ℕ → List ℕ) → AreEnvLayers g e → IsLayerCount e n → AreDelayCounts g e n counts →
    LossIsASpecialCase g e n (denial_count g n counts)
