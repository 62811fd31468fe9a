use Rattle.std.proofs.Common.{◌≡◌, ◌++◌, ◌∷◌, [], Err, sym, ◌∙◌, ap, rules}
use Rattle.bdd_store.proofs.Whole.{fault_of}
use Rattle.bdd_ops.specs.Questions.{MayChoose}
use Rattle.bdd_ops.proofs.StayLemmas.{works_less, works_remembered}
use Rattle.bdd_ops.proofs.SpentLemmas.{full_spent, spent_results}
use Rattle.bdd_ops.proofs.ChoiceLemmas.{low_ignores, high_ignores, low_may, high_may, join_chooses, choice_live_later, chooses_same}
use Rattle.bdd_ops.proofs.work.Work.join_choice.Goals as goal

pub join-requires-clause-low_ignores : goal.join-requires-clause-low_ignores
join-requires-clause-low_ignores c = low_ignores c.args.self.now c.args.level c.args.asked c.args.low.0 c.args.high.0 c.requires.halves

pub join-requires-clause-high_ignores : goal.join-requires-clause-high_ignores
join-requires-clause-high_ignores c = high_ignores c.args.self.now c.args.level c.args.asked c.args.low.0 c.args.high.0 c.requires.halves

pub returns-in_err-edge-clause-works : goal.returns-in_err-edge-clause-works
returns-in_err-edge-clause-works c = works_less c.args.self.now c.join.new.self c.args.self.now.state.stack (c.args.low.0 ∷ c.args.high.0 ∷ []) c.join.ensures.works

pub returns-in_err-edge-clause-full : goal.returns-in_err-edge-clause-full
returns-in_err-edge-clause-full c full =
    let same : c.from_residual.result ≡ Err c.in_err-edge.field-0.0 = search rules in
    let may = MayChoose c.args.self.now c.args.asked in
    spent_results c.args.self.now c.join.new.self c.args.self.now.state.stack c.args.low.0 c.args.high.0 may c.requires.halves.awaits.low_is.live c.requires.halves.high_is.live c.join.ensures.works
    (low_may c.args.self.now c.args.level c.args.asked c.args.low.0 c.args.high.0 c.requires.halves) (high_may c.args.self.now c.args.level c.args.asked c.args.low.0 c.args.high.0 c.requires.halves)
    (full_spent c.join.new.self (c.args.self.now.state.stack ++ c.args.low.0 ∷ c.args.high.0 ∷ []) may (c.join.ensures.full (c.in_err-edge.was ∙ ap Err (fault_of _ _ (sym same ∙ full)))))

pub remember_choice-requires-clause-choice : goal.remember_choice-requires-clause-choice
remember_choice-requires-clause-choice c =
    let works = works_less c.args.self.now c.join.new.self c.args.self.now.state.stack (c.args.low.0 ∷ c.args.high.0 ∷ []) c.join.ensures.works in
    join_chooses c.args.self.now c.join.new.self c.args.self.now.state.stack c.args.level c.args.asked c.args.low.0 c.args.high.0 c.in_ok-edge.edge.0 c.requires.halves works c.requires.held c.in_ok-edge.ensures.joined

pub returns-clause-choice : goal.returns-clause-choice
returns-clause-choice c =
    let works = works_less c.args.self.now c.join.new.self c.args.self.now.state.stack (c.args.low.0 ∷ c.args.high.0 ∷ []) c.join.ensures.works in
    chooses_same c.join.new.self c.remember_choice.new.self c.args.asked c.in_ok-edge.edge.0 c.remember_choice.ensures.same (choice_live_later c.args.self.now c.join.new.self c.args.self.now.state.stack c.args.asked works c.requires.held)
    (join_chooses c.args.self.now c.join.new.self c.args.self.now.state.stack c.args.level c.args.asked c.args.low.0 c.args.high.0 c.in_ok-edge.edge.0 c.requires.halves works c.requires.held c.in_ok-edge.ensures.joined)

pub returns-clause-works : goal.returns-clause-works
returns-clause-works c =
    works_remembered c.args.self.now c.join.new.self c.remember_choice.new.self c.args.self.now.state.stack (works_less c.args.self.now c.join.new.self c.args.self.now.state.stack (c.args.low.0 ∷ c.args.high.0 ∷ []) c.join.ensures.works) c.remember_choice.ensures.same

pub remember_choice-requires-clause-a_live : goal.remember_choice-requires-clause-a_live
remember_choice-requires-clause-a_live c = (choice_live_later c.args.self.now c.join.new.self c.args.self.now.state.stack c.args.asked (works_less c.args.self.now c.join.new.self c.args.self.now.state.stack (c.args.low.0 ∷ c.args.high.0 ∷ []) c.join.ensures.works) c.requires.held).a_live

pub remember_choice-requires-clause-b_live : goal.remember_choice-requires-clause-b_live
remember_choice-requires-clause-b_live c = (choice_live_later c.args.self.now c.join.new.self c.args.self.now.state.stack c.args.asked (works_less c.args.self.now c.join.new.self c.args.self.now.state.stack (c.args.low.0 ∷ c.args.high.0 ∷ []) c.join.ensures.works) c.requires.held).b_live

pub remember_choice-requires-clause-c_live : goal.remember_choice-requires-clause-c_live
remember_choice-requires-clause-c_live c = (choice_live_later c.args.self.now c.join.new.self c.args.self.now.state.stack c.args.asked (works_less c.args.self.now c.join.new.self c.args.self.now.state.stack (c.args.low.0 ∷ c.args.high.0 ∷ []) c.join.ensures.works) c.requires.held).c_live
