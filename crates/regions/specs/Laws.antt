-- Laws of sets of states, each of which the function of its name in src/laws.rt proves.
use Rattle.std.specs.Prelude.{◌≡◌, ◌↔◌, not, None}
use Rattle.spec_model.specs.Games.{GameData}
use Rattle.spec_model.specs.Sets.{StateSet, no_states, all_states, both, either, rest, IsPartOf, system_forces, environment_forces, pre_sys, pre_env}

-- the set has only states of the game
abbrev pub IsProper : GameData → StateSet → Type 0
IsProper g a = IsPartOf a (all_states g)

-- none is the least set and all the greatest, `and` is what two have in common, and `or` what they have together
pub record FormLattice (g : GameData) : Type 0 where
  pub none_least : (a : StateSet) → IsPartOf no_states a
  pub all_greatest : (a : StateSet) → IsProper g a → both a (all_states g) ≡ a
  pub common : (a b c : StateSet) → IsPartOf c (both a b) ↔ IsPartOf c a × IsPartOf c b
  pub joined : (a b c : StateSet) → IsPartOf (either a b) c ↔ IsPartOf a c × IsPartOf b c

-- a set and its complement have nothing in common and all states together, and the complement of the complement is the set
pub record HaveComplements (g : GameData) : Type 0 where
  pub apart : (a : StateSet) → both a (rest g a) ≡ no_states
  pub together : (a : StateSet) → IsProper g a → either a (rest g a) ≡ all_states g
  pub twice : (a : StateSet) → IsProper g a → rest g (rest g a) ≡ a

-- sets with the same states are one
abbrev pub AreKnownByStates : Type 0
AreKnownByStates = (a b : StateSet) → IsPartOf a b → IsPartOf b a → a ≡ b

-- what a player can force the next state into grows with the set
pub record PredecessorsGrow (g : GameData) : Type 0 where
  pub of_system : (t u : StateSet) → IsPartOf t u → IsPartOf (pre_sys g t) (pre_sys g u)
  pub of_environment : (t u : StateSet) → IsPartOf t u → IsPartOf (pre_env g t) (pre_env g u)

-- where one player can't force the next state into a set, the other can keep it out
pub record AreDual (g : GameData) : Type 0 where
  pub system : (t : StateSet) → rest g (pre_sys g t) ≡ pre_env g (rest g t)
  pub environment : (t : StateSet) → IsProper g t → rest g (pre_env g t) ≡ pre_sys g (rest g t)
  pub start : (t : StateSet) → not (system_forces g t None) ≡ environment_forces g (rest g t) None
