-- What is read of a log line by line, and which run an audit stands for.
use Rattle.std.specs.Prelude.{◌≡◌, ◌⊎◌, ℕ, Bool, ◌+◌, ◌<◌, true, List, ◌++◌, length, Option, Some, None}
use Rattle.spec_model.specs.Values.{Assignment, is_assignment}
use Rattle.spec_model.specs.Syntax.{Specification}
use Rattle.spec_model.specs.Rules.{Run, after}
use Rattle.spec_model.specs.Plays.{IsPlay}
use Rattle.spec_model.specs.Moves.{input_domains, output_domains, rules_of}
use Rattle.spec_model.specs.Games.{GameData}
use Rattle.spec_model.specs.Agreement.{Agrees}
use Rattle.session_lines.specs.declared.lines.Lines.{Lines}
use Rattle.session_lines.specs.Handed.{Hands}
use Rattle.session_lines.specs.Views.{AreForLogs}
use Rattle.trace_planes.specs.declared.audit.Audit.{Audit}
use Rattle.trace_planes.specs.declared.finding.Finding.{Finding}
use Rattle.trace_planes.specs.Audits.{Stands, room_of}
use Rattle.trace_planes.specs.Findings.{first_finding_in}
use Rattle.session.specs.declared.auditing.AuditEnd.{AuditEnd}
use Rattle.session.specs.declared.auditing.AuditEnd.TheVariants as ends
use Rattle.session.specs.Ends.{IsRefused}
use Rattle.session.specs.AuditTalks.{ReadsAll, ReadsPosition, ArePositions, AuditTalk}

-- the positions of this run were pushed, and its game agrees with the specification
abbrev pub IsAuditOf : Audit → Specification → Run → Type 0
IsAuditOf a s log = (g : GameData) × Agrees s g × Stands a g log

-- the lines are for logs of some specification, and the audit is one of it into which so many positions were pushed
pub record Serves (lines : Lines) (a : Audit) (count : ℕ) : Type 0 where
  pub spec : Specification
  pub log : Run
  pub suits : AreForLogs lines spec
  pub stands : IsAuditOf a spec log
  pub counted : length log ≡ count

-- ---- what comes of calls

-- whichever end is due, a broken line comes first
abbrev pub IsTold : Specification → Run → (due end : AuditEnd) → Type 0
IsTold s log due end = (IsPlay (rules_of s) log × (end ≡ due)) ⊎ ((f : Finding) × (first_finding_in s log ≡ Some f) × (end ≡ ends.Broken f))

-- the position was pushed, and may have filled the room: then all were checked
abbrev pub IsPushed : Specification → Audit → Run → Option Finding → Type 0
IsPushed s new log None = IsAuditOf new s log × (0 < room_of new)
IsPushed s new log (Some f) = first_finding_in s log ≡ Some f

-- likewise, where these are the values of the position
abbrev pub IsPushedAs : Specification → Audit → Run → Assignment → Option Finding → Type 0
IsPushedAs s new log z found = (x y : Assignment) → z ≡ x ++ y → is_assignment (input_domains s) x ≡ true → is_assignment (output_domains s) y ≡ true → IsPushed s new (after log x y) found

-- a line was read as a position, which was pushed, or it was refused
abbrev pub IsTaken : Specification → Audit → Run → (line : List ℕ) → (count : ℕ) → Option AuditEnd → Type 0
IsTaken s new log line count None = (x : Assignment) × (y : Assignment) × ReadsPosition s line x y × IsPushed s new (after log x y) None
IsTaken s new log line count (Some end) =
    (IsRefused (ReadsAll s) (Some line) × IsTold s log (ends.BadLine (count + 1)) end)
    ⊎ ((x : Assignment) × (y : Assignment) × ReadsPosition s line x y × (f : Finding) × (first_finding_in s (after log x y) ≡ Some f) × (end ≡ ends.Broken f))

-- ---- on the way

-- the lines that were handed out read as the positions of the run, which were pushed; `ended` says whether the input gave its end
pub record HasRead (s : Specification) (a : Audit) (ended : Bool) (left_old left_new : Option (List ℕ)) (pending : List ℕ) (count : ℕ) : Type 0 where
  pub handed : List (List ℕ)
  pub hands : Hands ended left_old left_new handed pending
  pub log : Run
  pub positions : ArePositions s handed log
  pub counted : length log ≡ count
  pub stands : IsAuditOf a s log

-- what came of a turn: one line more was read and there is room for another, or the audit has ended
abbrev pub ReadsOn : Specification → (new : Audit) → (limit : ℕ) → (ended : Bool) → (left_old left_new : Option (List ℕ)) → (pending : List ℕ) → (count : ℕ) → (rose_in : Type 0) → Option AuditEnd → Type 0
ReadsOn s new limit ended left_old left_new pending count rose_in None = HasRead s new ended left_old left_new pending (count + 1) × (0 < room_of new)
ReadsOn s new limit ended left_old left_new pending count rose_in (Some end) = AuditTalk s limit left_old left_new rose_in end
