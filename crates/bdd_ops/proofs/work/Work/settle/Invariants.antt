use Rattle.bdd_ops.specs.Together.{SettlesSome}
use Rattle.bdd_ops.proofs.work.Work.settle.Given as goal

abbrev pub invariant-loop-i : goal.invariant-loop-i
invariant-loop-i l = SettlesSome l.self l.fixed l.initial.row l.row l.i
