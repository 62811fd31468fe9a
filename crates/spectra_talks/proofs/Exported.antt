-- What is said of a table, and what is written of one that meets its rules.
use Rattle.std.proofs.Common.{◌≡◌, ◌⊎◌, ◌≤◌, ℕ, Bool, false, nat_lt, if◌then◌else◌, List, length, Option, Some, None, inl, inr, refl, ap, ◌∙◌, arith}
use Rattle.std.proofs.KnownBytes.{Appends-nil}
use Rattle.std.proofs.lemmas.Bool.Decides.{nat_tests}
use Rattle.spec_model.specs.Syntax.{Specification}
use Rattle.spec_model.specs.Games.{inputs_of, outputs_of}
use Rattle.hidden_game.specs.GameOf.{game_of}
use Rattle.strategy_tables.specs.Tables.{SystemTable, EnvironmentTable}
use Rattle.strategy_tables.specs.Rules.{system_checks, environment_checks, first_flaw}
use Rattle.strategy_tables.specs.Games.{TableData, OfSystem, OfEnvironment}
use Rattle.table_check.specs.declared.checking.CheckEnd.TheVariants.{Limit}
use Rattle.table_check.specs.Ends.{end_of, check_end}
use Rattle.spectra_talks.specs.declared.status.Status.{Status}
use Rattle.spectra_talks.specs.declared.status.Status.TheVariants.{Memory}
use Rattle.spectra_talks.specs.Endings.{Ending, exported, size_limit, verified_system, verified_environment}
use Rattle.spectra_talks.specs.Streams.{Moment, moment, Ends, WantsMemory}
use Rattle.spectra_talks.specs.Verifying.{checked, of_table}
use Rattle.spectra_talks.specs.Exporting.{IsTableText, Exports, written, large, no_memory}

module _ (s : Specification) (says : Ending) (is_large : Type 0) (before after : Moment) (status : Status) where
  pub text_said : (text : List ℕ) → IsTableText s says text → Ends (exported text) before after status ⊎ WantsMemory before after status → Exports s says is_large before after status
  text_said text is (inl ends) = written text is ends
  text_said text is (inr wants) = no_memory wants

  pub limit_said : is_large → Ends size_limit before after status ⊎ WantsMemory before after status → Exports s says is_large before after status
  limit_said passes (inl ends) = large passes ends
  limit_said passes (inr wants) = no_memory wants

  -- what is large for one reason is large for one of several
  pub exports_too : (is_larger : Type 0) → (is_large → is_larger) → Exports s says is_large before after status → Exports s says is_larger before after status
  exports_too is_larger more (written text is ends) = written text is ends
  exports_too is_larger more (large passes ends) = large (more passes) ends
  exports_too is_larger more (no_memory wants) = no_memory wants

-- nothing is written where no memory was given
pub nothing_said : (s : Specification) (says : Ending) (is_large : Type 0) (left : Option (List ℕ)) (reads read_faults : ℕ) (out : Option (List ℕ)) (write_faults : ℕ) →
    Exports s says is_large (moment left out reads read_faults write_faults) (moment left out reads read_faults write_faults) Memory
nothing_said s says is_large left reads read_faults out write_faults = no_memory (record { is = refl; nothing_written = Appends-nil out; unread = record { left = refl; reads = refl; faults = refl } })

-- ---- what `verify` says of a table that meets its rules

listed_few : (n : ℕ) → n ≤ 1024 → nat_lt 1024 n ≡ false
listed_few n few = grind (arith, nat_tests)

pub system_verified : (s : Specification) (k : ℕ) (t : TableData) (made : SystemTable) → t ≡ OfSystem made → made.k ≡ k → length (inputs_of (game_of s)) ≤ 1024 → first_flaw (system_checks (game_of s) made) ≡ None →
    of_table s (Some t) ≡ verified_system k
system_verified s k t made is rounds few sound =
    let one : check_end (game_of s) (OfSystem made) ≡ end_of None = ap (λ (b : Bool). if b then Limit else end_of (first_flaw (system_checks (game_of s) made))) (listed_few _ few) ∙ ap end_of sound in
    ap (λ (x : TableData). of_table s (Some x)) is ∙ (ap (checked (OfSystem made)) one ∙ ap verified_system rounds)

pub environment_verified : (s : Specification) (n m : ℕ) (t : TableData) (made : EnvironmentTable) → t ≡ OfEnvironment made → made.n ≡ n → made.m ≡ m → length (outputs_of (game_of s)) ≤ 1024 →
    first_flaw (environment_checks (game_of s) made) ≡ None → of_table s (Some t) ≡ verified_environment n m
environment_verified s n m t made is shifts denials few sound =
    let one : check_end (game_of s) (OfEnvironment made) ≡ end_of None = ap (λ (b : Bool). if b then Limit else end_of (first_flaw (environment_checks (game_of s) made))) (listed_few _ few) ∙ ap end_of sound in
    ap (λ (x : TableData). of_table s (Some x)) is ∙ (ap (checked (OfEnvironment made)) one ∙ (ap (λ (k : ℕ). verified_environment k made.m) shifts ∙ ap (verified_environment n) denials))
