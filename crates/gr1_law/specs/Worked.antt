-- Small games, whose K, or N and M, is worked out by hand.
use Rattle.std.specs.Prelude.{◌≡◌, ℕ, List, [], ◌∷◌, codes}
use Rattle.spec_model.specs.declared.value.Owner.TheVariants.{Env, Sys}
use Rattle.spec_model.specs.Values.{TruthValues}
use Rattle.spec_model.specs.Syntax.{Formula, Variable, NextOf, Negation, Conjunction, Implication, formulas, VariableData}
use Rattle.spec_model.specs.Realizable.{IsRealizable}
use Rattle.spec_model.specs.Unrealizable.{IsUnrealizable}
use Rattle.spec_model.specs.Games.{GameData, GoalData}
use Rattle.spec_model.specs.Sets.{StateSet}
use Rattle.gr1_law.specs.Layers.{LayerSets, IsWinning, AreGreatestRanks, round_count}
use Rattle.gr1_law.specs.EnvLayers.{EnvLayerSets, AreEnvLayers, IsLayerCount, AreDelayCounts, denial_count}
use Rattle.spec_model.specs.GameRules.{rules_of_game}

-- `env boolean a; sys boolean g;`
abbrev pub a_and_g : List VariableData
a_and_g = record { name = codes "a"; owner = Env; domain = TruthValues } ∷ record { name = codes "g"; owner = Sys; domain = TruthValues } ∷ []

-- `env boolean a; sys boolean g; gar alwEv g;` with assumptions that recur, and lines that are judged at each position
abbrev pub lighting : (assume : List GoalData) → (safe_asm safe_gar : List (ℕ × Formula)) → GameData
lighting assume safe_asm safe_gar =
    record {
      variables = a_and_g;
      hidden = [];
      initial_asm = [];
      initial_gar = [];
      safe_asm = safe_asm;
      safe_gar = safe_gar;
      assume = assume;
      goals = record { label = record { line = 1; part = 0 }; holds = Variable 1 } ∷ [];
    }

-- no more lines: the rank is 1 where g holds, and 2 elsewhere
abbrev pub light : GameData
light = lighting [] [] []

-- `asm alwEv a; gar alw g -> a;`: the rank is 1 where g holds or a doesn't, since g may wait for a, and 2 elsewhere
abbrev pub permitted : GameData
permitted = lighting (record { label = record { line = 2; part = 0 }; holds = Variable 0 } ∷ []) [] ((3, Implication (Variable 1) (Variable 0)) ∷ [])

-- `asm alw next(a) & next(!a); gar alw !g;`: no second input is legal, and g never holds; each state has the rank 1
abbrev pub dead_end : GameData
dead_end = lighting [] ((2, Conjunction (formulas (NextOf (Variable 0) ∷ NextOf (Negation (Variable 0)) ∷ []))) ∷ []) ((3, Negation (Variable 1)) ∷ [])

-- K is this number, and with it the game is realizable
pub record HasRounds (g : GameData) (k : ℕ) : Type 0 where
  pub count : (z : StateSet) (l : LayerSets) (ranks : List ℕ) → IsWinning g z l → AreGreatestRanks g l ranks → round_count ranks ≡ k
  pub realizable : IsRealizable (rules_of_game g) k

-- `asm alwEv a; gar alw next(g) & next(!g);`: no second output is legal; each state is in the first layer, with the rank 1
abbrev pub stuck : GameData
stuck = lighting (record { label = record { line = 2; part = 0 }; holds = Variable 0 } ∷ []) [] ((3, Conjunction (formulas (NextOf (Variable 1) ∷ NextOf (Negation (Variable 1)) ∷ []))) ∷ [])

-- N and M are these numbers, and with them the game is unrealizable
pub record HasDenials (g : GameData) (n m : ℕ) : Type 0 where
  pub count : (e : EnvLayerSets) (n' : ℕ) (counts : ℕ → ℕ → List ℕ) → AreEnvLayers g e → IsLayerCount e n' → AreDelayCounts g e n' counts → (n' ≡ n) × (denial_count g n' counts ≡ m)
  pub unrealizable : IsUnrealizable (rules_of_game g) n m
