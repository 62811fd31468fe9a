use Rattle.bdd_ops.proofs.JoiningLemmas.{and_chosen, or_chosen}
use Rattle.bdd_ops.proofs.work.Work.remember_joined.Goals as goal

pub remember_choice-requires-clause-choice : goal.remember_choice-requires-clause-choice
remember_choice-requires-clause-choice c = and_chosen c.args.all c.args.self.now c.args.a.0 c.args.b.0 _ c.args.r.0 c.if-all.true c.constant_edge-decides.ensures.meaning c.requires.joined

pub remember_choice-requires-else-all-clause-choice : goal.remember_choice-requires-else-all-clause-choice
remember_choice-requires-else-all-clause-choice c = or_chosen c.args.all c.args.self.now c.args.a.0 c.args.b.0 _ c.args.r.0 c.if-all.false c.constant_edge-decides.ensures.meaning c.requires.joined
