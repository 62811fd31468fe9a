use Rattle.std.proofs.Common.{◌≡◌, ◌++◌, ◌∷◌, [], Err, sym, ◌∙◌, ap, rules}
use Rattle.bdd_store.proofs.Whole.{fault_of}
use Rattle.bdd_ops.specs.Questions.{AreHeld, choosing}
use Rattle.bdd_ops.proofs.StayLemmas.{works_same, works_remembered}
use Rattle.bdd_ops.proofs.StackLemmas.{moves_low, moves_high}
use Rattle.bdd_ops.proofs.QuestionLemmas.{answered_high, gives_low, gives_whole}
use Rattle.bdd_ops.proofs.ChoiceLemmas.{choosing_carries, choice_held_more, choice_live_later, chooses_same}
use Rattle.bdd_ops.proofs.work.Work.give_choice.Goals as goal

pub push-requires : goal.push-requires
push-requires c = c.requires.answered.answer_is.live

pub returns-in_ok-push-in-Low-clause-gives : goal.returns-in_ok-push-in-Low-clause-gives
returns-in_ok-push-in-Low-clause-gives c =
    gives_low (choosing c.args.self.now) (choosing c.push.new.self) (AreHeld c.args.self.now (c.args.self.now.state.stack ++ c.args.edge.0 ∷ [])) c.args.self.now.state.stack c.args.frame c.args.edge c.in-Low.high c.args.frames.now.items c.await_high.new.frames.items (choosing_carries c.args.self.now c.push.new.self (c.args.self.now.state.stack ++ c.args.edge.0 ∷ []) (works_same c.args.self.now c.push.new.self (c.args.self.now.state.stack ++ c.args.edge.0 ∷ []) c.push.ensures.same)) (choice_held_more c.args.self.now c.args.self.now.state.stack (c.args.edge.0 ∷ []) c.args.frame.asked c.requires.held) c.in-Low.is c.requires.answered c.await_high.ensures

pub returns-in_ok-push-in-Low-clause-works : goal.returns-in_ok-push-in-Low-clause-works
returns-in_ok-push-in-Low-clause-works c = works_same c.args.self.now c.push.new.self c.args.self.now.state.stack c.push.ensures.same

pub returns-in_ok-push-in-Low-clause-moves : goal.returns-in_ok-push-in-Low-clause-moves
returns-in_ok-push-in-Low-clause-moves c = moves_low c.args.frame c.args.edge c.in-Low.high c.args.frames.now.items c.await_high.new.frames.items c.args.self.now.state.stack c.push.new.self.state.stack c.requires.top c.in-Low.is c.await_high.ensures c.in_ok-push-in-Low.ensures.pushed

pub join_choice-requires-clause-halves : goal.join_choice-requires-clause-halves
join_choice-requires-clause-halves c = answered_high (choosing c.args.self.now) c.args.frame c.in-High.low c.args.edge.0 c.in-High.is c.requires.answered

pub returns-in_ok-whole-in-High-clause-gives : goal.returns-in_ok-whole-in-High-clause-gives
returns-in_ok-whole-in-High-clause-gives c = gives_whole (choosing c.pop.new.self) c.args.frame c.in_ok-whole-in-High.whole c.args.frames.now.items c.drop_top.new.frames.items c.drop_top.ensures (chooses_same c.join_choice.new.self c.pop.new.self c.args.frame.asked c.in_ok-whole-in-High.whole.0 c.pop.ensures.same (choice_live_later c.args.self.now c.join_choice.new.self c.args.self.now.state.stack c.args.frame.asked c.join_choice.ensures.works c.requires.held) c.in_ok-whole-in-High.ensures.choice)

pub returns-in_ok-whole-in-High-clause-works : goal.returns-in_ok-whole-in-High-clause-works
returns-in_ok-whole-in-High-clause-works c = works_remembered c.args.self.now c.join_choice.new.self c.pop.new.self c.args.self.now.state.stack c.join_choice.ensures.works c.pop.ensures.same

pub returns-in_ok-whole-in-High-clause-moves : goal.returns-in_ok-whole-in-High-clause-moves
returns-in_ok-whole-in-High-clause-moves c = moves_high c.args.frame c.in-High.low c.args.frames.now.items c.drop_top.new.frames.items c.args.self.now.state.stack c.join_choice.new.self.state.stack c.pop.new.self.state.stack c.requires.top c.in-High.is c.drop_top.ensures c.join_choice.ensures.stack c.pop.ensures.popped
