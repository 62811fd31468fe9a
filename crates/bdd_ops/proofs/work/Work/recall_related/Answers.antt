use Rattle.bdd_ops.proofs.StepLemmas.{both_recalled}
use Rattle.bdd_ops.proofs.work.Work.recall_related.Goals as goal

pub returns : goal.returns
returns c = both_recalled _ _ c.args.list _ _ _ c.recall.result c.self.view_is c.self.invariant.0 c.recall.ensures.kept c.recall.ensures.live
