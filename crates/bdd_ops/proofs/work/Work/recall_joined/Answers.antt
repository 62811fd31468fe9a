use Rattle.bdd_ops.proofs.JoiningLemmas.{and_recalled, or_recalled}
use Rattle.bdd_ops.proofs.work.Work.recall_joined.Goals as goal

pub returns-then-all : goal.returns-then-all
returns-then-all c = and_recalled c.args.all c.args.self.now c.args.a.0 c.args.b.0 _ c.recall_choice.result c.if-all.true c.constant_edge-decides.ensures.meaning c.recall_choice.ensures

pub returns-else-all : goal.returns-else-all
returns-else-all c = or_recalled c.args.all c.args.self.now c.args.a.0 c.args.b.0 _ c.recall_choice-else-all.result c.if-all.false c.constant_edge-decides.ensures.meaning c.recall_choice-else-all.ensures
