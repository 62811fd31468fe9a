use Rattle.std.proofs.Common.{refl}
use Rattle.bdd_ops.proofs.StepLemmas.{right_same}
use Rattle.bdd_ops.proofs.work.Work.hold.Goals as goal

pub invariant_of-self : goal.invariant_of-self
invariant_of-self c = (right_same _ _ c.self.invariant.0 c.hold.ensures.table.0 c.hold.ensures.table.2 refl c.hold.ensures.sound, c.self.invariant.1)
