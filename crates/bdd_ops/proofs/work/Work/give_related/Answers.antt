use Rattle.std.proofs.Common.{◌≡◌, ◌++◌, ◌∷◌, [], Err, sym, ◌∙◌, ap, rules}
use Rattle.bdd_store.proofs.Whole.{fault_of}
use Rattle.bdd_ops.specs.Questions.{AreBothHeld, relating}
use Rattle.bdd_ops.proofs.StayLemmas.{works_same, works_remembered}
use Rattle.bdd_ops.proofs.StackLemmas.{moves_low, moves_high, moves_settled}
use Rattle.bdd_ops.proofs.QuestionLemmas.{answered_low, answered_high, gives_low, gives_whole}
use Rattle.bdd_ops.proofs.RelatedLemmas.{both_held_more, both_live_later, relating_carries, related_settled, related_remembered}
use Rattle.bdd_ops.proofs.work.Work.give_related.Goals as goal

pub remember_related-requires-clause-related : goal.remember_related-requires-clause-related
remember_related-requires-clause-related c =
    related_settled c.args.self.now c.args.list c.args.frame.level c.args.frame.asked c.args.edge.0 c.in-Low.high (answered_low (relating c.args.list c.args.self.now) c.args.frame c.in-Low.high c.args.edge.0 c.in-Low.is c.requires.answered) (c.is_settled.ensures.among c.if-is_settled.true) (c.is_settled.ensures.constant c.if-is_settled.true)

pub returns-then-is_settled-clause-gives : goal.returns-then-is_settled-clause-gives
returns-then-is_settled-clause-gives c =
    let has = answered_low (relating c.args.list c.args.self.now) c.args.frame c.in-Low.high c.args.edge.0 c.in-Low.is c.requires.answered in
    let is = related_settled c.args.self.now c.args.list c.args.frame.level c.args.frame.asked c.args.edge.0 c.in-Low.high has (c.is_settled.ensures.among c.if-is_settled.true) (c.is_settled.ensures.constant c.if-is_settled.true) in
    gives_whole (relating c.args.list c.remember_related.new.self) c.args.frame c.args.edge c.args.frames.now.items c.drop_top.new.frames.items c.drop_top.ensures (related_remembered c.args.self.now c.remember_related.new.self c.args.list c.args.frame.asked.a.0 c.args.frame.asked.b.0 c.args.edge.0 c.remember_related.ensures.same has.parts.live.a_live has.parts.live.b_live is)

pub returns-then-is_settled-clause-works : goal.returns-then-is_settled-clause-works
returns-then-is_settled-clause-works c = works_same c.args.self.now c.remember_related.new.self c.args.self.now.state.stack c.remember_related.ensures.same

pub returns-then-is_settled-clause-moves : goal.returns-then-is_settled-clause-moves
returns-then-is_settled-clause-moves c = moves_settled c.args.frame c.in-Low.high c.args.frames.now.items c.drop_top.new.frames.items c.args.self.now.state.stack c.remember_related.new.self.state.stack c.requires.top c.in-Low.is c.drop_top.ensures c.remember_related.ensures.stack

pub push-requires : goal.push-requires
push-requires c = c.requires.answered.answer_is.live

pub returns-in_ok-push-in-Low-clause-gives : goal.returns-in_ok-push-in-Low-clause-gives
returns-in_ok-push-in-Low-clause-gives c =
    gives_low (relating c.args.list c.args.self.now) (relating c.args.list c.push.new.self) (AreBothHeld c.args.self.now (c.args.self.now.state.stack ++ c.args.edge.0 ∷ [])) c.args.self.now.state.stack c.args.frame c.args.edge c.in-Low.high c.args.frames.now.items c.await_high.new.frames.items (relating_carries c.args.list c.args.self.now c.push.new.self (c.args.self.now.state.stack ++ c.args.edge.0 ∷ []) (works_same c.args.self.now c.push.new.self (c.args.self.now.state.stack ++ c.args.edge.0 ∷ []) c.push.ensures.same)) (both_held_more c.args.self.now c.args.self.now.state.stack (c.args.edge.0 ∷ []) c.args.frame.asked c.requires.held) c.in-Low.is c.requires.answered c.await_high.ensures

pub returns-in_ok-push-in-Low-clause-works : goal.returns-in_ok-push-in-Low-clause-works
returns-in_ok-push-in-Low-clause-works c = works_same c.args.self.now c.push.new.self c.args.self.now.state.stack c.push.ensures.same

pub returns-in_ok-push-in-Low-clause-moves : goal.returns-in_ok-push-in-Low-clause-moves
returns-in_ok-push-in-Low-clause-moves c = moves_low c.args.frame c.args.edge c.in-Low.high c.args.frames.now.items c.await_high.new.frames.items c.args.self.now.state.stack c.push.new.self.state.stack c.requires.top c.in-Low.is c.await_high.ensures c.in_ok-push-in-Low.ensures.pushed

pub join_related-requires-clause-halves : goal.join_related-requires-clause-halves
join_related-requires-clause-halves c = answered_high (relating c.args.list c.args.self.now) c.args.frame c.in-High.low c.args.edge.0 c.in-High.is c.requires.answered

pub returns-in_ok-whole-in-High-clause-gives : goal.returns-in_ok-whole-in-High-clause-gives
returns-in_ok-whole-in-High-clause-gives c = gives_whole (relating c.args.list c.pop.new.self) c.args.frame c.in_ok-whole-in-High.whole c.args.frames.now.items c.drop_top-in-High.new.frames.items c.drop_top-in-High.ensures ((let live = both_live_later c.args.self.now c.join_related.new.self c.args.self.now.state.stack c.args.frame.asked c.join_related.ensures.works c.requires.held in related_remembered c.join_related.new.self c.pop.new.self c.args.list c.args.frame.asked.a.0 c.args.frame.asked.b.0 c.in_ok-whole-in-High.whole.0 c.pop.ensures.same live.a_live live.b_live c.in_ok-whole-in-High.ensures.given))

pub returns-in_ok-whole-in-High-clause-works : goal.returns-in_ok-whole-in-High-clause-works
returns-in_ok-whole-in-High-clause-works c = works_remembered c.args.self.now c.join_related.new.self c.pop.new.self c.args.self.now.state.stack c.join_related.ensures.works c.pop.ensures.same

pub returns-in_ok-whole-in-High-clause-moves : goal.returns-in_ok-whole-in-High-clause-moves
returns-in_ok-whole-in-High-clause-moves c = moves_high c.args.frame c.in-High.low c.args.frames.now.items c.drop_top-in-High.new.frames.items c.args.self.now.state.stack c.join_related.new.self.state.stack c.pop.new.self.state.stack c.requires.top c.in-High.is c.drop_top-in-High.ensures c.join_related.ensures.stack c.pop.ensures.popped
