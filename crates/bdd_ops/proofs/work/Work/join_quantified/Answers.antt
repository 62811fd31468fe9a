use Rattle.std.proofs.Common.{◌≡◌, ◌++◌, ◌∷◌, [], Err, sym, ◌∙◌, ap, rules}
use Rattle.bdd_store.proofs.Whole.{fault_of}
use Rattle.bdd_ops.specs.Questions.{MayMake}
use Rattle.bdd_ops.proofs.StayLemmas.{held_there, works_less, works_remembered}
use Rattle.bdd_ops.proofs.SpentLemmas.{spent_more, spent_results}
use Rattle.bdd_ops.proofs.QuantifiedLemmas.{quantified_low_ignores, quantified_high_ignores, quantified_low_may, quantified_high_may, quantified_given, quantified_made, over_now, over_remembered}
use Rattle.bdd_ops.proofs.work.Work.join_quantified.Goals as goal

pub join_over-requires-clause-low_ignores : goal.join_over-requires-clause-low_ignores
join_over-requires-clause-low_ignores c = quantified_low_ignores c.args.self.now c.args.all c.args.list c.args.level c.args.asked c.args.low.0 c.args.high.0 c.requires.halves

pub join_over-requires-clause-high_ignores : goal.join_over-requires-clause-high_ignores
join_over-requires-clause-high_ignores c = quantified_high_ignores c.args.self.now c.args.all c.args.list c.args.level c.args.asked c.args.low.0 c.args.high.0 c.requires.halves

pub returns-in_err-edge-clause-works : goal.returns-in_err-edge-clause-works
returns-in_err-edge-clause-works c = works_less c.args.self.now c.join_over.new.self c.args.self.now.state.stack (c.args.low.0 ∷ c.args.high.0 ∷ []) c.join_over.ensures.works

pub returns-in_err-edge-clause-full : goal.returns-in_err-edge-clause-full
returns-in_err-edge-clause-full c full =
    let same : c.from_residual.result ≡ Err c.in_err-edge.field-0.0 = search rules in
    let may = MayMake c.args.all c.args.self.now c.args.list c.args.asked.0 in
    spent_results c.args.self.now c.join_over.new.self c.args.self.now.state.stack c.args.low.0 c.args.high.0 may c.requires.halves.awaits.low_is.live c.requires.halves.high_is.live c.join_over.ensures.works
    (quantified_low_may c.args.self.now c.args.all c.args.list c.args.level c.args.asked c.args.low.0 c.args.high.0 c.requires.halves) (quantified_high_may c.args.self.now c.args.all c.args.list c.args.level c.args.asked c.args.low.0 c.args.high.0 c.requires.halves)
    (spent_more c.join_over.new.self (c.args.self.now.state.stack ++ c.args.low.0 ∷ c.args.high.0 ∷ []) _ may (quantified_made c.args.self.now c.args.all c.args.list c.args.level c.args.asked c.args.low.0 c.args.high.0 c.requires.halves) (c.join_over.ensures.full (c.in_err-edge.was ∙ ap Err (fault_of _ _ (sym same ∙ full)))))

pub remember_quantified-requires-clause-quantified : goal.remember_quantified-requires-clause-quantified
remember_quantified-requires-clause-quantified c =
    let works = works_less c.args.self.now c.join_over.new.self c.args.self.now.state.stack (c.args.low.0 ∷ c.args.high.0 ∷ []) c.join_over.ensures.works in
    over_now c.args.self.now c.join_over.new.self c.args.self.now.state.stack c.args.all c.args.list c.args.asked.0 c.in_ok-edge.edge.0 works c.requires.held
    (quantified_given c.args.self.now c.join_over.new.self c.args.all c.args.list c.args.level c.args.asked c.args.low.0 c.args.high.0 c.in_ok-edge.edge.0 c.requires.halves c.in_ok-edge.ensures.given)

pub returns-clause-given : goal.returns-clause-given
returns-clause-given c =
    let works = works_less c.args.self.now c.join_over.new.self c.args.self.now.state.stack (c.args.low.0 ∷ c.args.high.0 ∷ []) c.join_over.ensures.works in
    over_remembered c.join_over.new.self c.remember_quantified.new.self c.args.all c.args.list c.args.asked.0 c.in_ok-edge.edge.0 c.remember_quantified.ensures.same (held_there c.args.self.now c.join_over.new.self c.args.self.now.state.stack c.args.asked.0 works c.requires.held).0
    (over_now c.args.self.now c.join_over.new.self c.args.self.now.state.stack c.args.all c.args.list c.args.asked.0 c.in_ok-edge.edge.0 works c.requires.held
    (quantified_given c.args.self.now c.join_over.new.self c.args.all c.args.list c.args.level c.args.asked c.args.low.0 c.args.high.0 c.in_ok-edge.edge.0 c.requires.halves c.in_ok-edge.ensures.given))

pub returns-clause-works : goal.returns-clause-works
returns-clause-works c =
    works_remembered c.args.self.now c.join_over.new.self c.remember_quantified.new.self c.args.self.now.state.stack (works_less c.args.self.now c.join_over.new.self c.args.self.now.state.stack (c.args.low.0 ∷ c.args.high.0 ∷ []) c.join_over.ensures.works) c.remember_quantified.ensures.same

pub remember_quantified-requires-clause-live : goal.remember_quantified-requires-clause-live
remember_quantified-requires-clause-live c = (held_there c.args.self.now c.join_over.new.self c.args.self.now.state.stack c.args.asked.0 (works_less c.args.self.now c.join_over.new.self c.args.self.now.state.stack (c.args.low.0 ∷ c.args.high.0 ∷ []) c.join_over.ensures.works) c.requires.held).0
