use Rattle.std.proofs.Common.{arith}
use Rattle.bdd_ops.proofs.StepLemmas.{right_none}
use Rattle.bdd_ops.proofs.work.Work.forget.Goals as goal

pub invariant_of-self : goal.invariant_of-self
invariant_of-self c = (right_none _ c.forget.ensures.sound c.forget.ensures.forgotten, omega arith)
