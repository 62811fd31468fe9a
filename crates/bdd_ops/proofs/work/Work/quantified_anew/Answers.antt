use Rattle.bdd_ops.proofs.StayLemmas.{given_same, works_remembered}
use Rattle.bdd_ops.proofs.SpentLemmas.{spent_same}
use Rattle.bdd_ops.proofs.StackLemmas.{cut_back}
use Rattle.bdd_ops.proofs.work.Work.quantified_anew.Goals as goal

pub returns-clause-given : goal.returns-clause-given
returns-clause-given c = given_same c.framed_quantified-given.new.self c.cut.new.self _ c.framed_quantified-given.result c.cut.ensures.same c.framed_quantified-given.ensures.given

pub returns-clause-works : goal.returns-clause-works
returns-clause-works c = works_remembered c.args.self.now c.framed_quantified-given.new.self c.cut.new.self c.args.self.now.state.stack c.framed_quantified-given.ensures.works c.cut.ensures.same

pub returns-clause-stack : goal.returns-clause-stack
returns-clause-stack c = cut_back c.args.self.now.state.stack c.framed_quantified-given.new.self.state.stack c.cut.new.self.state.stack c.depth-depth.result c.depth-depth.ensures c.framed_quantified-given.ensures.over c.cut.ensures.cut

pub returns-clause-full : goal.returns-clause-full
returns-clause-full c is = spent_same c.framed_quantified-given.new.self c.cut.new.self c.args.self.now.state.stack _ c.cut.ensures.same (c.framed_quantified-given.ensures.full is)
