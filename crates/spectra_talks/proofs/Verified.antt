-- What is verified wins, and what is said of a table closes the run.
use Rattle.std.proofs.Common.{◌≡◌, ◌⊎◌, ℕ, Bool, true, false, nat_lt, if◌then◌else◌, List, length, Option, Some, None, inl, inr, refl, sym, subst}
use Rattle.sp_outside.specs.Causes.{Rose}
use Rattle.spec_model.specs.Syntax.{Specification}
use Rattle.spec_model.specs.Games.{inputs_of, outputs_of}
use Rattle.hidden_game.specs.GameOf.{game_of}
use Rattle.strategy_tables.specs.Rules.{Check, system_checks, environment_checks, first_flaw}
use Rattle.strategy_tables.specs.Sound.{SoundTablesWin}
use Rattle.strategy_tables.specs.Games.{TableData, OfSystem, OfEnvironment, IsTableOf}
use Rattle.strategy_text.specs.Reading.{table_in}
use Rattle.strategy_text.specs.Laws.{ReadsTablesOnly}
use Rattle.table_check.specs.declared.checking.CheckEnd.TheVariants.{Limit}
use Rattle.table_check.specs.Ends.{end_of, check_end, Claims}
use Rattle.spectra_talks.specs.declared.status.Status.{Status}
use Rattle.spectra_talks.specs.Endings.{Ending, input_fault}
use Rattle.spectra_talks.specs.Streams.{Moment, moment, whole, cut, Ends, WantsMemory}
use Rattle.spectra_talks.specs.Offered.{IsSaid}
use Rattle.spectra_talks.specs.Sessions as sessions
use Rattle.spectra_talks.specs.Sessions.{Closes}
use Rattle.sp_outside.specs.Parts.{TakesUpTo, ReadsUpTo}
use Rattle.spectra_talks.specs.Verifying.{most_taken, checked, of_table, verify_ending, WinsIfVerified, Verifies, told, not_taken, without_room}

-- ---- what is verified

module _ (s : Specification) (win : SoundTablesWin s) where
  by_flaw : (t : TableData) (flaw : Option Check) → (flaw ≡ None → Claims s t) → WinsIfVerified s (checked t (end_of flaw))
  by_flaw (OfSystem t) None claims = claims refl
  by_flaw (OfEnvironment t) None claims = claims refl
  by_flaw t (Some c) claims = tt

  by_size : (t : TableData) (large : Bool) (flaw : Option Check) → (flaw ≡ None → Claims s t) → WinsIfVerified s (checked t (if large then Limit else end_of flaw))
  by_size t true flaw claims = tt
  by_size t false flaw claims = by_flaw t flaw claims

  of_checked : (t : TableData) → IsTableOf (game_of s) t → WinsIfVerified s (checked t (check_end (game_of s) t))
  of_checked (OfSystem t) is = by_size (OfSystem t) (nat_lt 1024 (length (inputs_of (game_of s)))) (first_flaw (system_checks (game_of s) t)) (win.0 t is.1)
  of_checked (OfEnvironment t) is = by_size (OfEnvironment t) (nat_lt 1024 (length (outputs_of (game_of s)))) (first_flaw (environment_checks (game_of s) t)) (win.1 t is.1 is.2)

  pub wins : ReadsTablesOnly s → (bytes : List ℕ) → WinsIfVerified s (verify_ending s bytes)
  wins only bytes = by (table_in s bytes) refl
    where
      by : (r : Option TableData) → table_in s bytes ≡ r → WinsIfVerified s (of_table s r)
      by None is = tt
      by (Some t) is = of_checked t (only bytes t is)

-- ---- what is said

-- what is said of one ending is said of the one that it is
pub said_too : {O : Type 0} (written : O → Option (List ℕ)) (faults : O → ℕ) (e is : Ending) → e ≡ is → (old new : O) (status : Status) → IsSaid written faults is old new status → IsSaid written faults e old new status
said_too written faults e is same old new status said = subst (λ (x : Ending). IsSaid written faults x old new status) (sym same) said

-- a last line closes the run
pub line_closes : (e : Ending) (before after : Moment) (status : Status) → Ends e before after status → Closes e before.written after.written (Rose before.write_faults after.write_faults) status
line_closes e before after _ (whole unread is) = sessions.whole is
line_closes e before after _ (cut unread part rose) = sessions.cut part rose

module _ {O : Type 0} (written : O → Option (List ℕ)) (faults : O → ℕ) (s : Specification) (old new : O) (status : Status) (left left' : Option (List ℕ)) (reads reads' failed failed' : ℕ)
    (in_turns : ReadsUpTo most_taken 1 left left' reads reads') where
  abbrev before : Moment
  before = moment left (written old) reads failed (faults old)

  abbrev after : Moment
  after = moment left' (written new) reads' failed' (faults new)

  -- where the input has no part in it
  abbrev told_after : Moment
  told_after = moment left (written new) reads failed (faults new)

  -- the end of its check is told of what was taken
  pub end_told : (bytes : List ℕ) → TakesUpTo most_taken left left' bytes → WinsIfVerified s (verify_ending s bytes) → IsSaid written faults (verify_ending s bytes) old new status → Verifies s before after status
  end_told bytes taken wins said = by (said left reads failed)
    where
      by : Ends (verify_ending s bytes) before told_after status ⊎ WantsMemory before told_after status → Verifies s before after status
      by (inl ends) = told bytes taken in_turns wins (line_closes (verify_ending s bytes) before told_after status ends)
      by (inr wants) = without_room in_turns wants.is wants.nothing_written

  -- or that the input failed
  pub fault_told : Rose failed failed' → IsSaid written faults input_fault old new status → Verifies s before after status
  fault_told rose said = by (said left reads failed)
    where
      by : Ends input_fault before told_after status ⊎ WantsMemory before told_after status → Verifies s before after status
      by (inl ends) = not_taken in_turns rose (line_closes input_fault before told_after status ends)
      by (inr wants) = without_room in_turns wants.is wants.nothing_written
