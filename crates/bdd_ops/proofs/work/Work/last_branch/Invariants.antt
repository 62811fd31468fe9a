use Rattle.std.proofs.Common.{MatchOption}
use Rattle.spec_model.specs.DiagramReads.{bits_of}
use Rattle.bdd_ops.specs.Contents.{function_at}
use Rattle.bdd_ops.specs.Paths.{HasNone}
use Rattle.bdd_ops.specs.Ways.{HasNoneBehind, IsLed, IsLast}
use Rattle.bdd_ops.proofs.work.Work.last_branch.Given as goal

abbrev pub invariant-loop-at : goal.invariant-loop-at
invariant-loop-at l = record {
  led : IsLed l.self (function_at l.self l.fn.root.0) l.at (bits_of l.out) l.edge.0;
  last : MatchOption l.last (HasNoneBehind l.fixed (function_at l.self l.fn.root.0) l.at (bits_of l.out) → HasNone l.fixed (function_at l.self l.fn.root.0) 0) (λ b. IsLast l.self l.fixed (function_at l.self l.fn.root.0) l.out l.at b.level b.bit b.part);
}
