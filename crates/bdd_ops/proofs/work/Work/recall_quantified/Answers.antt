use Rattle.bdd_ops.proofs.StepLemmas.{over_recalled}
use Rattle.bdd_ops.proofs.work.Work.recall_quantified.Goals as goal

pub returns : goal.returns
returns c = over_recalled _ _ c.args.all c.args.list _ _ _ c.recall.result c.self.view_is c.self.invariant.0 c.quantifier.ensures c.recall.ensures.kept c.recall.ensures.live
