use Rattle.std.proofs.Common.{◌≤◌, ℕ, List, Option}
use Rattle.spec_model.specs.Syntax.{Specification}
use Rattle.session_lines.specs.HowOften.{ReadsLines}
use Rattle.session_lines.specs.Views.{KeepsTables, pending_of, ended_of}
use Rattle.session.specs.Exchanges.{SoFar}
use Rattle.session.specs.Protocols.{Suits}
use Rattle.session.proofs.talking.exchange.Given as goal

-- so many lines are answered
abbrev pub invariant-loop-count : goal.invariant-loop-count
invariant-loop-count g l =
    let terms = g.P.Protocol.terms in
    let stands = g.P.Protocol.stands in
    let left = g.I.Source.left in
    let written = g.O.Sink.written in
    record {
      so : (s : Specification) (first : g.P.Protocol.State) (left' written' : Option (List ℕ)) → Suits l.fn.lines (terms s) →
          SoFar (terms s) (stands l.fn.play l.fn.beside s) first (ended_of l.fn.lines) left' (left l.fn.input) written' (written l.fn.output) (pending_of l.fn.lines) 0 →
          SoFar (terms s) (stands l.play l.beside s) first (ended_of l.lines) left' (left l.input) written' (written l.output) (pending_of l.lines) l.count;
      reads : ReadsLines l.count (ended_of l.lines) (pending_of l.lines) (left l.fn.input) (left l.input) (g.I.Source.reads l.fn.input) (g.I.Source.reads l.input);
      keeps : KeepsTables l.fn.lines l.lines;
      later_in : g.I.Source.faults l.fn.input ≤ g.I.Source.faults l.input;
      later_out : g.O.Sink.faults l.fn.output ≤ g.O.Sink.faults l.output;
    }
