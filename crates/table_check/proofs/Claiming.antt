-- Where a check ends with `Sound`, what the table claims is true.
use Rattle.std.proofs.Common.{◌≡◌, Bool, true, false, if◌then◌else◌, nat_lt, length, Option, Some, None, Result, Ok, Err, IfOk, refl, sym, ap, ◌∙◌}
use Rattle.spec_model.specs.Syntax.{Specification}
use Rattle.spec_model.specs.Moves.{rules_of}
use Rattle.spec_model.specs.Realizable.{IsRealizable}
use Rattle.spec_model.specs.Unrealizable.{IsUnrealizable}
use Rattle.spec_model.specs.Games.{GameData, inputs_of, outputs_of}
use Rattle.hidden_game.specs.GameOf.{game_of}
use Rattle.strategy_tables.specs.Rules.{Check, system_checks, environment_checks, first_flaw}
use Rattle.strategy_tables.specs.Sound.{SoundTablesWin}
use Rattle.strategy_tables.specs.Games.{TableData, OfSystem, OfEnvironment, IsTableOf}
use Rattle.table_check.specs.declared.checking.CheckEnd.{CheckEnd}
use Rattle.table_check.specs.declared.checking.CheckEnd.TheVariants.{Sound, Flaw, Limit}
use Rattle.table_check.specs.Ends.{end_of, check_end, Claims}

claims : (s : Specification) → SoundTablesWin s → (t : TableData) → IsTableOf (game_of s) t → check_end (game_of s) t ≡ Sound → Claims s t
claims s win (OfSystem t) table e = by (nat_lt 1024 (length (inputs_of (game_of s)))) (first_flaw (system_checks (game_of s) t)) (λ none. win.0 t table.1 none) e
  where
    by : (b : Bool) (o : Option Check) → (o ≡ None → IsRealizable (rules_of s) t.k) → (if b then Limit else end_of o) ≡ Sound → IsRealizable (rules_of s) t.k
    by true o wins e = absurd (cc)
    by false None wins e = wins refl
    by false (Some c) wins e = absurd (cc)
claims s win (OfEnvironment t) table e = by (nat_lt 1024 (length (outputs_of (game_of s)))) (first_flaw (environment_checks (game_of s) t)) (λ none. win.1 t table.1 table.2 none) e
  where
    by : (b : Bool) (o : Option Check) → (o ≡ None → IsUnrealizable (rules_of s) t.n t.m) → (if b then Limit else end_of o) ≡ Sound → IsUnrealizable (rules_of s) t.n t.m
    by true o wins e = absurd (cc)
    by false None wins e = wins refl
    by false (Some c) wins e = absurd (cc)

pub sound_by : {E : Type 0} (s : Specification) (t : TableData) (g : GameData) → SoundTablesWin s → IsTableOf (game_of s) t → g ≡ game_of s → (r : Result CheckEnd E) →
    IfOk r (λ end. end ≡ check_end g t) → IfOk r (λ end. end ≡ Sound → Claims s t)
sound_by s t g win table same (Ok end) is = λ e. claims s win t table (sym (is ∙ ap (λ (g : GameData). check_end g t) same) ∙ e)
sound_by s t g win table same (Err x) is = tt
