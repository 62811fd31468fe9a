use Rattle.bdd_ops.proofs.StepLemmas.{moved_recalled}
use Rattle.bdd_ops.proofs.work.Work.recall_moved.Goals as goal

pub returns : goal.returns
returns c = moved_recalled _ _ c.args.list _ _ c.recall.result c.self.view_is c.self.invariant.0 c.recall.ensures.kept c.recall.ensures.live
