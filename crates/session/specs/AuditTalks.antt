-- Which log was read of the lines of an input, and how its audit ended.
use Rattle.std.specs.Prelude.{◌≡◌, ℕ, ◌+◌, ◌<◌, ◌≤◌, true, false, List, [], ◌∷◌, ◌++◌, length, map, Option, Some}
use Rattle.std.specs.Io.KnownBytes.{Consumes, IsAtEnd}
use Rattle.spec_model.specs.Values.{Assignment, is_assignment}
use Rattle.spec_model.specs.Syntax.{Specification}
use Rattle.spec_model.specs.Rules.{Run}
use Rattle.spec_model.specs.Plays.{IsPlay}
use Rattle.spec_model.specs.Moves.{input_domains, output_domains, rules_of}
use Rattle.session_lines.specs.InputLines.{Line, input_lines}
use Rattle.session_lines.specs.Handing.{IsNext, AreFirst}
use Rattle.session_lines.specs.Shown.{inputs_of, outputs_of}
use Rattle.session_lines.specs.Reading.{Reads}
use Rattle.trace_planes.specs.Findings.{first_finding_in}
use Rattle.session.specs.declared.auditing.AuditEnd.{AuditEnd}
use Rattle.session.specs.declared.auditing.AuditEnd.TheVariants as ends
use Rattle.session.specs.Ends.{IsRefused}

-- the line reads as an assignment of all variables: first come the values of the inputs, then those of the outputs
abbrev pub ReadsAll : Specification → List ℕ → Assignment → Type 0
ReadsAll s line z = Reads s.names (inputs_of s ++ outputs_of s) line z

-- it reads as a position
pub record ReadsPosition (s : Specification) (line : List ℕ) (x y : Assignment) : Type 0 where
  pub input : is_assignment (input_domains s) x ≡ true
  pub output : is_assignment (output_domains s) y ≡ true
  pub reads : ReadsAll s line (x ++ y)

-- the lines read as the positions of the run
abbrev pub ArePositions : Specification → List (List ℕ) → Run → Type 0
ArePositions s [] [] = Unit {0}
ArePositions s (line ∷ lines) (p ∷ h) = ReadsPosition s line p.input p.output × ArePositions s lines h
ArePositions s _ _ = ⊥

-- Why no other line was read, once these were handed out, the first of what the input gave: it gave its end and no other line;
-- the next line is refused; the limit was reached; or the input failed.
abbrev pub Stops : Specification → (limit : ℕ) → (given : List ℕ) → (left : Option (List ℕ)) → (handed : List (List ℕ)) → (count : ℕ) → (rose_in : Type 0) → AuditEnd → Type 0
Stops s limit given left handed count rose_in (ends.Whole n) = IsAtEnd left × (input_lines true given ≡ map (λ l. Some l) handed) × (n ≡ count) × (count < limit)
Stops s limit given left handed count rose_in (ends.BadLine n) = (line : Line) × IsNext given left handed line × IsRefused (ReadsAll s) line × (n ≡ count + 1) × (count < limit)
Stops s limit given left handed count rose_in ends.StateLimit = AreFirst given left handed × (count ≡ limit)
Stops s limit given left handed count rose_in ends.ReadFault = rose_in × (input_lines false given ≡ map (λ l. Some l) handed) × (count < limit)
Stops s limit given left handed count rose_in (ends.Broken finding) = ⊥

-- How an audit ends, once the run is h: some position breaks a line, and this is the first; or each move is legal, and no
-- other line was read.
abbrev pub AuditEnds : Specification → (limit : ℕ) → (given : List ℕ) → (left : Option (List ℕ)) → (handed : List (List ℕ)) → (h : Run) → (rose_in : Type 0) → AuditEnd → Type 0
AuditEnds s limit given left handed h rose_in (ends.Broken finding) = (first_finding_in s h ≡ Some finding) × AreFirst given left handed
AuditEnds s limit given left handed h rose_in end = IsPlay (rules_of s) h × Stops s limit given left handed (length h) rose_in end

-- The audit: the input gave some bytes; of their lines the first read as the positions of a run; and it ended so.
pub record AuditTalk (s : Specification) (limit : ℕ) (left_old left_new : Option (List ℕ)) (rose_in : Type 0) (end : AuditEnd) : Type 0 where
  pub given : List ℕ
  pub taken_from : Consumes left_old left_new given
  pub handed : List (List ℕ)
  pub log : Run
  pub positions : ArePositions s handed log
  pub few : length log ≤ limit
  pub ends : AuditEnds s limit given left_new handed log rose_in end
