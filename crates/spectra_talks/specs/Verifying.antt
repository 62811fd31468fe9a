-- Tables that were read and checked.
use Rattle.std.specs.Prelude.{◌≡◌, ℕ, List, [], Option, Some, None}
use Rattle.std.specs.Io.KnownBytes.{Appends}
use Rattle.sp_outside.specs.Causes.{Rose}
use Rattle.sp_outside.specs.Parts.{TakesUpTo, ReadsUpTo}
use Rattle.spec_model.specs.Syntax.{Specification}
use Rattle.spec_model.specs.Moves.{rules_of}
use Rattle.spec_model.specs.Realizable.{IsRealizable}
use Rattle.spec_model.specs.Unrealizable.{IsUnrealizable}
use Rattle.hidden_game.specs.GameOf.{game_of}
use Rattle.strategy_tables.specs.Games.{TableData, OfSystem, OfEnvironment}
use Rattle.strategy_text.specs.Reading.{table_in}
use Rattle.table_check.specs.declared.checking.CheckEnd.{CheckEnd}
use Rattle.table_check.specs.declared.checking.CheckEnd.TheVariants.{Sound, Flaw, Limit}
use Rattle.table_check.specs.Ends.{check_end}
use Rattle.spectra_talks.specs.declared.status.Status.{Status}
use Rattle.spectra_talks.specs.declared.status.Status.TheVariants.{Memory}
use Rattle.spectra_talks.specs.Endings.{Ending, verified_system, verified_environment, not_verified, table_refused, size_limit, input_fault}
use Rattle.spectra_talks.specs.Streams.{Moment}
use Rattle.spectra_talks.specs.Sessions.{Closes}

-- how many bytes are taken at most: one more than a table may have
abbrev pub most_taken : ℕ
most_taken = 16777217

-- what is said of a table that wins
abbrev pub verified : TableData → Ending
verified (OfSystem t) = verified_system t.k
verified (OfEnvironment t) = verified_environment t.n t.m

-- and of each end of a check
abbrev pub checked : TableData → CheckEnd → Ending
checked t Sound = verified t
checked t (Flaw rule node) = not_verified rule node
checked t Limit = size_limit

abbrev pub of_table : Specification → Option TableData → Ending
of_table s None = table_refused
of_table s (Some t) = checked t (check_end (game_of s) t)

-- how `verify` ends for the bytes that it took: they are checked as a table of the specification, if they are one
abbrev pub verify_ending : Specification → List ℕ → Ending
verify_ending s bytes = of_table s (table_in s bytes)

-- what is verified wins
abbrev pub WinsIfVerified : Specification → Ending → Type 0
WinsIfVerified s (verified_system k) = IsRealizable (rules_of s) k
WinsIfVerified s (verified_environment n m) = IsUnrealizable (rules_of s) n m
WinsIfVerified s _ = Unit {0}

module _ (s : Specification) (before after : Moment) where
  -- each read of the input but one took at least one byte
  abbrev pub ReadsTable : Type 0
  ReadsTable = ReadsUpTo most_taken 1 before.left after.left before.reads after.reads

  -- The input was taken, and the end of its check was told; or the input failed, which was told; or no memory was given, and
  -- nothing is written, however much was taken.
  pub data Verifies : Status → Type 0 where
    told : {status : Status} (bytes : List ℕ) → TakesUpTo most_taken before.left after.left bytes → ReadsTable → WinsIfVerified s (verify_ending s bytes) →
        Closes (verify_ending s bytes) before.written after.written (Rose before.write_faults after.write_faults) status → Verifies status
    not_taken : {status : Status} → ReadsTable → Rose before.read_faults after.read_faults → Closes input_fault before.written after.written (Rose before.write_faults after.write_faults) status → Verifies status
    without_room : {status : Status} → ReadsTable → status ≡ Memory → Appends before.written after.written [] → Verifies status
