use Rattle.std.proofs.Common.{◌≤◌, ◌<◌, ℕ, List, Option}
use Rattle.spec_model.specs.Syntax.{Specification}
use Rattle.trace_planes.specs.Audits.{room_of}
use Rattle.session_lines.specs.HowOften.{ReadsLines}
use Rattle.session_lines.specs.Views.{AreForLogs, KeepsTables, pending_of, ended_of}
use Rattle.session.specs.Audits.{HasRead}
use Rattle.session.proofs.auditing.audit_lines.Given as goal

-- so many lines are read, and there is room for another
abbrev pub invariant-loop-count : goal.invariant-loop-count
invariant-loop-count g l =
    let left = g.I.Source.left in
    record {
      so : (s : Specification) (left' : Option (List ℕ)) → AreForLogs l.fn.lines s → HasRead s l.fn.audit (ended_of l.fn.lines) left' (left l.fn.input) (pending_of l.fn.lines) 0 → HasRead s l.audit (ended_of l.lines) left' (left l.input) (pending_of l.lines) l.count;
      reads : ReadsLines l.count (ended_of l.lines) (pending_of l.lines) (left l.fn.input) (left l.input) (g.I.Source.reads l.fn.input) (g.I.Source.reads l.input);
      room : 0 < room_of l.audit;
      keeps : KeepsTables l.fn.lines l.lines;
      later : g.I.Source.faults l.fn.input ≤ g.I.Source.faults l.input;
    }
