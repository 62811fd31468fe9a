use Rattle.std.proofs.Common.{◌≡◌, ◌++◌, ◌∷◌, [], Err, sym, ◌∙◌, ap, rules}
use Rattle.bdd_store.proofs.Whole.{fault_of}
use Rattle.bdd_ops.specs.Questions.{MayRelate}
use Rattle.bdd_ops.proofs.StayLemmas.{works_less, works_remembered}
use Rattle.bdd_ops.proofs.SpentLemmas.{spent_more, spent_results}
use Rattle.bdd_ops.proofs.RelatedLemmas.{both_live_later, related_low_ignores, related_high_ignores, related_low_may, related_high_may, related_given, related_made, related_now, related_remembered}
use Rattle.bdd_ops.proofs.work.Work.join_related.Goals as goal

pub join_over-requires-clause-low_ignores : goal.join_over-requires-clause-low_ignores
join_over-requires-clause-low_ignores c = related_low_ignores c.args.self.now c.args.list c.args.level c.args.asked c.args.low.0 c.args.high.0 c.requires.halves

pub join_over-requires-clause-high_ignores : goal.join_over-requires-clause-high_ignores
join_over-requires-clause-high_ignores c = related_high_ignores c.args.self.now c.args.list c.args.level c.args.asked c.args.low.0 c.args.high.0 c.requires.halves

pub returns-in_err-edge-clause-works : goal.returns-in_err-edge-clause-works
returns-in_err-edge-clause-works c = works_less c.args.self.now c.join_over.new.self c.args.self.now.state.stack (c.args.low.0 ∷ c.args.high.0 ∷ []) c.join_over.ensures.works

pub returns-in_err-edge-clause-full : goal.returns-in_err-edge-clause-full
returns-in_err-edge-clause-full c full =
    let same : c.from_residual.result ≡ Err c.in_err-edge.field-0.0 = search rules in
    let may = MayRelate c.args.self.now c.args.list c.args.asked.a.0 c.args.asked.b.0 in
    spent_results c.args.self.now c.join_over.new.self c.args.self.now.state.stack c.args.low.0 c.args.high.0 may c.requires.halves.awaits.low_is.live c.requires.halves.high_is.live c.join_over.ensures.works
    (related_low_may c.args.self.now c.args.list c.args.level c.args.asked c.args.low.0 c.args.high.0 c.requires.halves) (related_high_may c.args.self.now c.args.list c.args.level c.args.asked c.args.low.0 c.args.high.0 c.requires.halves)
    (spent_more c.join_over.new.self (c.args.self.now.state.stack ++ c.args.low.0 ∷ c.args.high.0 ∷ []) _ may (related_made c.args.self.now c.args.list c.args.level c.args.asked c.args.low.0 c.args.high.0 c.requires.halves) (c.join_over.ensures.full (c.in_err-edge.was ∙ ap Err (fault_of _ _ (sym same ∙ full)))))

pub remember_related-requires-clause-related : goal.remember_related-requires-clause-related
remember_related-requires-clause-related c =
    let works = works_less c.args.self.now c.join_over.new.self c.args.self.now.state.stack (c.args.low.0 ∷ c.args.high.0 ∷ []) c.join_over.ensures.works in
    related_now c.args.self.now c.join_over.new.self c.args.self.now.state.stack c.args.list c.args.asked c.in_ok-edge.edge.0 works c.requires.held
    (related_given c.args.self.now c.join_over.new.self c.args.list c.args.level c.args.asked c.args.low.0 c.args.high.0 c.in_ok-edge.edge.0 c.requires.halves c.in_ok-edge.ensures.given)

pub returns-clause-given : goal.returns-clause-given
returns-clause-given c =
    let works = works_less c.args.self.now c.join_over.new.self c.args.self.now.state.stack (c.args.low.0 ∷ c.args.high.0 ∷ []) c.join_over.ensures.works in
    let live = both_live_later c.args.self.now c.join_over.new.self c.args.self.now.state.stack c.args.asked works c.requires.held in
    related_remembered c.join_over.new.self c.remember_related.new.self c.args.list c.args.asked.a.0 c.args.asked.b.0 c.in_ok-edge.edge.0 c.remember_related.ensures.same live.a_live live.b_live
    (related_now c.args.self.now c.join_over.new.self c.args.self.now.state.stack c.args.list c.args.asked c.in_ok-edge.edge.0 works c.requires.held
    (related_given c.args.self.now c.join_over.new.self c.args.list c.args.level c.args.asked c.args.low.0 c.args.high.0 c.in_ok-edge.edge.0 c.requires.halves c.in_ok-edge.ensures.given))

pub returns-clause-works : goal.returns-clause-works
returns-clause-works c =
    works_remembered c.args.self.now c.join_over.new.self c.remember_related.new.self c.args.self.now.state.stack (works_less c.args.self.now c.join_over.new.self c.args.self.now.state.stack (c.args.low.0 ∷ c.args.high.0 ∷ []) c.join_over.ensures.works) c.remember_related.ensures.same

pub remember_related-requires-clause-a_live : goal.remember_related-requires-clause-a_live
remember_related-requires-clause-a_live c = (both_live_later c.args.self.now c.join_over.new.self c.args.self.now.state.stack c.args.asked (works_less c.args.self.now c.join_over.new.self c.args.self.now.state.stack (c.args.low.0 ∷ c.args.high.0 ∷ []) c.join_over.ensures.works) c.requires.held).a_live

pub remember_related-requires-clause-b_live : goal.remember_related-requires-clause-b_live
remember_related-requires-clause-b_live c = (both_live_later c.args.self.now c.join_over.new.self c.args.self.now.state.stack c.args.asked (works_less c.args.self.now c.join_over.new.self c.args.self.now.state.stack (c.args.low.0 ∷ c.args.high.0 ∷ []) c.join_over.ensures.works) c.requires.held).b_live
