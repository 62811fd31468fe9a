-- Sessions that the program held.
use Rattle.std.specs.Prelude.{ℕ, List, Option}
use Rattle.std.specs.Io.KnownBytes.{Appends}
use Rattle.sp_outside.specs.Causes.{Rose}
use Rattle.sp_outside.specs.Written.{AppendsFront}
use Rattle.spec_model.specs.Syntax.{Specification}
use Rattle.session_lines.specs.HowOften.{ReadsForLines}
use Rattle.session.specs.declared.talking.End.{End}
use Rattle.session.specs.declared.talking.End.TheVariants as ends
use Rattle.session.specs.declared.auditing.AuditEnd.{AuditEnd}
use Rattle.session.specs.declared.auditing.AuditEnd.TheVariants as audits
use Rattle.session.specs.Talks.{RunTalk}
use Rattle.session.specs.CounterTalks.{CounterTalk}
use Rattle.session.specs.AuditTalks.{AuditTalk}
use Rattle.spectra_talks.specs.declared.status.Status.{Status}
use Rattle.spectra_talks.specs.declared.status.Status.TheVariants.{OutputFault}
use Rattle.spectra_talks.specs.Endings.{Ending, line_of, status_of, realizable, unrealizable, all_answered, broken, guarantee_broken, bad_line, audited, audit_broken, state_limit, input_fault, output_fault}
use Rattle.spectra_talks.specs.Streams.{Moment, IsUnread}

-- how many positions a session may have
abbrev pub most_positions : ℕ
most_positions = 1000000000

-- A talk, by what is told of the input and the output before and after it, whether the input's count and the output's rose,
-- and its end.
abbrev pub Talk : Type 1
Talk = (left_old left_new written_old written_new : Option (List ℕ)) → (rose_in rose_out : Type 0) → End → Type 0

-- ---- any session

-- the last line is written, or the output failed and a front of it is written
module _ (last : Ending) (before after : Option (List ℕ)) (rose_out : Type 0) where
  pub data Closes : Status → Type 0 where
    whole : Appends before after (line_of last) → Closes (status_of last)
    cut : AppendsFront before after (line_of last) → rose_out → Closes OutputFault

module _ (verdict : Ending) (Talks : Talk) (ending_of : End → Ending) (before after : Moment) where
  -- The session: the verdict line was written, then a talk was held, for whose lines the input was read, and its end was told.
  pub record IsSession (status : Status) : Type 0 where
    pub end : End
    pub greeted : Option (List ℕ)
    pub talked : Option (List ℕ)
    pub verdict_line : Appends before.written greeted (line_of verdict)
    pub talk : Talks before.left after.left greeted talked (Rose before.read_faults after.read_faults) (Rose before.write_faults after.write_faults) end
    pub reads : ReadsForLines most_positions before.left after.left before.reads after.reads
    pub closes : Closes (ending_of end) talked after.written (Rose before.write_faults after.write_faults) status

  -- a session was held, or the output failed at the verdict line and the input was not read
  pub data HoldsSession : Status → Type 0 where
    session : {status : Status} → IsSession status → HoldsSession status
    cut_at_once : IsUnread before after → AppendsFront before.written after.written (line_of verdict) → Rose before.write_faults after.write_faults → HoldsSession OutputFault

-- ---- the session of the side that wins

-- what ends `run` after each end of its talk
abbrev pub ending_after : End → Ending
ending_after ends.Finished = all_answered
ending_after (ends.Broken label) = broken label.line
ending_after (ends.BadLine n) = bad_line n
ending_after ends.StateLimit = state_limit
ending_after ends.ReadFault = input_fault
ending_after ends.WriteFault = output_fault

-- the system's side answers the lines
abbrev pub RunTalks : Specification → (k : ℕ) → Talk
RunTalks s k = RunTalk s k most_positions

abbrev pub Holds : Specification → (k : ℕ) → (before after : Moment) → Status → Type 0
Holds s k = HoldsSession (realizable k) (RunTalks s k) ending_after

-- what ends `counter` after each end of its talk
abbrev pub counter_ending_after : End → Ending
counter_ending_after ends.Finished = all_answered
counter_ending_after (ends.Broken label) = guarantee_broken label.line
counter_ending_after (ends.BadLine n) = bad_line n
counter_ending_after ends.StateLimit = state_limit
counter_ending_after ends.ReadFault = input_fault
counter_ending_after ends.WriteFault = output_fault

-- the environment's side answers the lines
abbrev pub CounterTalks : Specification → (n m : ℕ) → Talk
CounterTalks s n m = CounterTalk s n m most_positions

abbrev pub Counters : Specification → (n m : ℕ) → (before after : Moment) → Status → Type 0
Counters s n m = HoldsSession (unrealizable n m) (CounterTalks s n m) counter_ending_after

-- ---- audits

-- what ends `audit` after each of its ends
abbrev pub audit_ending_after : AuditEnd → Ending
audit_ending_after (audits.Whole n) = audited n
audit_ending_after (audits.Broken finding) = audit_broken finding.label.line finding.position
audit_ending_after (audits.BadLine n) = bad_line n
audit_ending_after audits.StateLimit = state_limit
audit_ending_after audits.ReadFault = input_fault

-- The log was read, line by line, and the end of its audit was told.
pub record Audits (s : Specification) (before after : Moment) (status : Status) : Type 0 where
  pub end : AuditEnd
  pub talk : AuditTalk s most_positions before.left after.left (Rose before.read_faults after.read_faults) end
  pub reads : ReadsForLines most_positions before.left after.left before.reads after.reads
  pub closes : Closes (audit_ending_after end) before.written after.written (Rose before.write_faults after.write_faults) status
