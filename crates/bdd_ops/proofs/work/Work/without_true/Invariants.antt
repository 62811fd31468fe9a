use Rattle.std.proofs.Common.{◌≤◌, vec_capacity}
use Rattle.bdd_ops.proofs.LeavingLemmas.{AreLeft}
use Rattle.bdd_ops.proofs.work.Work.without_true.Given as goal

abbrev pub invariant-loop-e : goal.invariant-loop-e
invariant-loop-e l =
    record {
      left : AreLeft l.self l.row l.left.items l.e-index;
      capacity : vec_capacity l.initial.left ≤ vec_capacity l.left;
    }
