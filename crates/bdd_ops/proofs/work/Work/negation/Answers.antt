use Rattle.std.proofs.Common.{ap}
use Rattle.spec_model.specs.Diagrams.{value}
use Rattle.bdd_ops.specs.Contents.{function_at}
use Rattle.bdd_ops.proofs.JoinLemmas.{ite-not, negated_parts, has_function}
use Rattle.bdd_ops.proofs.SpentLemmas.{spent_more}
use Rattle.bdd_ops.proofs.work.Work.negation.Goals as goal

pub returns-clause-negated : goal.returns-clause-negated
returns-clause-negated c = has_function _ _ _ _ _ c.choice.result (ite-not (function_at c.args.self.now c.args.a.0) (function_at c.args.self.now c.constant_edge-never.result.0) (function_at c.args.self.now c.constant_edge-always.result.0) (ap value c.constant_edge-never.ensures.meaning) (ap value c.constant_edge-always.ensures.meaning)) c.choice.ensures.choice

pub returns-clause-full : goal.returns-clause-full
returns-clause-full c is = spent_more c.choice.new.self c.args.self.now.state.stack _ _ (λ d made. negated_parts _ _ _ d c.constant_edge-never.ensures.meaning c.constant_edge-always.ensures.meaning made) (c.choice.ensures.full is)
