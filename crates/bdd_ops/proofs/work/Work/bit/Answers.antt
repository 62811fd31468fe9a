use Rattle.std.proofs.Common.{◌∷◌, [], ap, false, true}
use Rattle.spec_model.specs.Diagrams.{value}
use Rattle.bdd_ops.proofs.StayLemmas.{works_less}
use Rattle.bdd_ops.proofs.SpentLemmas.{spent_fixed}
use Rattle.bdd_ops.proofs.JoinLemmas.{bit_given}
use Rattle.bdd_ops.proofs.work.Work.bit.Goals as goal

pub returns-clause-bit : goal.returns-clause-bit
returns-clause-bit c = bit_given _ c.args.level _ _ c.join.result (ap value c.constant_edge-low.ensures.meaning) (ap value c.constant_edge-high.ensures.meaning) c.join.ensures.joined

pub returns-clause-works : goal.returns-clause-works
returns-clause-works c = works_less c.args.self.now c.join.new.self c.args.self.now.state.stack (c.constant_edge-low.result.0 ∷ c.constant_edge-high.result.0 ∷ []) c.join.ensures.works

pub returns-clause-full : goal.returns-clause-full
returns-clause-full c is =
    spent_fixed c.args.self.now c.join.new.self c.args.self.now.state.stack c.constant_edge-low.result.0 c.constant_edge-high.result.0 false true _ c.join.ensures.works c.constant_edge-low.ensures.live c.constant_edge-high.ensures.live c.constant_edge-low.ensures.meaning c.constant_edge-high.ensures.meaning (c.join.ensures.full is)
