-- What a small function may name where the budget runs out.
use Rattle.std.specs.Prelude.{◌≡◌, Some}
use Rattle.spec_model.specs.Games.{GameData}
use Rattle.spec_model.specs.Sets.{StateSet, pre_sys, pre_env}
use Rattle.regions.specs.Kept.{Kept, Meaning, States, Jam}

-- one of the two sets given, or the set from which a player forces the next state into its own
pub data IsForced (g : GameData) (a b : StateSet) (m : Meaning) : Type 0 where
  first : m ≡ States a → IsForced g a b m
  second : m ≡ States b → IsForced g a b m
  by_system : m ≡ States (pre_sys g a) → IsForced g a b m
  by_environment : m ≡ States (pre_env g b) → IsForced g a b m

-- a budget that ran out is told
abbrev pub TellsJam : {R M : Type 0} → Kept R M → Type 0
TellsJam k = (jam : Jam) × (k.jam ≡ Some jam)
