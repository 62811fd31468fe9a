use Rattle.std.proofs.Common.{arith}
use Rattle.bdd_ops.proofs.StepLemmas.{right_new}
use Rattle.bdd_ops.proofs.work.Work.make.Goals as goal

pub invariant_of-result : goal.invariant_of-result
invariant_of-result c = (right_new _ _ _ c.in_ok-store.ensures, omega arith)
