use Rattle.std.proofs.Common.{refl}
use Rattle.bdd_ops.proofs.StepLemmas.{right_same}
use Rattle.bdd_ops.proofs.work.Work.release.Goals as goal

pub invariant_of-self : goal.invariant_of-self
invariant_of-self c = (right_same _ _ c.self.invariant.0 c.release.ensures.table.0 c.release.ensures.table.2 refl c.release.ensures.sound, c.self.invariant.1)
