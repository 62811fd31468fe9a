use Rattle.std.proofs.Common.{◌≡◌, ◌++◌, ◌∷◌, [], Err, sym, ◌∙◌, ap, rules}
use Rattle.bdd_store.proofs.Whole.{fault_of}
use Rattle.bdd_ops.specs.Questions.{quantifying}
use Rattle.bdd_ops.proofs.StayLemmas.{held_there, works_same, works_remembered}
use Rattle.bdd_ops.proofs.StackLemmas.{moves_low, moves_high, moves_settled}
use Rattle.bdd_ops.proofs.QuestionLemmas.{answered_low, answered_high, gives_low, gives_whole}
use Rattle.bdd_store.proofs.Held.{held_more}
use Rattle.bdd_ops.proofs.QuantifiedLemmas.{HeldEdge, quantifying_carries, quantified_settled, over_remembered}
use Rattle.bdd_ops.proofs.work.Work.give_quantified.Goals as goal

pub remember_quantified-requires-clause-quantified : goal.remember_quantified-requires-clause-quantified
remember_quantified-requires-clause-quantified c =
    quantified_settled c.args.self.now c.args.all c.args.list c.args.frame.level c.args.frame.asked c.args.edge.0 c.in-Low.high (answered_low (quantifying c.args.all c.args.list c.args.self.now) c.args.frame c.in-Low.high c.args.edge.0 c.in-Low.is c.requires.answered) (c.is_settled.ensures.among c.if-is_settled.true) (c.is_settled.ensures.constant c.if-is_settled.true)

pub returns-then-is_settled-clause-gives : goal.returns-then-is_settled-clause-gives
returns-then-is_settled-clause-gives c =
    let has = answered_low (quantifying c.args.all c.args.list c.args.self.now) c.args.frame c.in-Low.high c.args.edge.0 c.in-Low.is c.requires.answered in
    let is = quantified_settled c.args.self.now c.args.all c.args.list c.args.frame.level c.args.frame.asked c.args.edge.0 c.in-Low.high has (c.is_settled.ensures.among c.if-is_settled.true) (c.is_settled.ensures.constant c.if-is_settled.true) in
    gives_whole (quantifying c.args.all c.args.list c.remember_quantified.new.self) c.args.frame c.args.edge c.args.frames.now.items c.drop_top.new.frames.items c.drop_top.ensures (over_remembered c.args.self.now c.remember_quantified.new.self c.args.all c.args.list c.args.frame.asked.0 c.args.edge.0 c.remember_quantified.ensures.same has.parts.live is)

pub returns-then-is_settled-clause-works : goal.returns-then-is_settled-clause-works
returns-then-is_settled-clause-works c = works_same c.args.self.now c.remember_quantified.new.self c.args.self.now.state.stack c.remember_quantified.ensures.same

pub returns-then-is_settled-clause-moves : goal.returns-then-is_settled-clause-moves
returns-then-is_settled-clause-moves c = moves_settled c.args.frame c.in-Low.high c.args.frames.now.items c.drop_top.new.frames.items c.args.self.now.state.stack c.remember_quantified.new.self.state.stack c.requires.top c.in-Low.is c.drop_top.ensures c.remember_quantified.ensures.stack

pub push-requires : goal.push-requires
push-requires c = c.requires.answered.answer_is.live

pub returns-in_ok-push-in-Low-clause-gives : goal.returns-in_ok-push-in-Low-clause-gives
returns-in_ok-push-in-Low-clause-gives c =
    gives_low (quantifying c.args.all c.args.list c.args.self.now) (quantifying c.args.all c.args.list c.push.new.self) (HeldEdge c.args.self.now (c.args.self.now.state.stack ++ c.args.edge.0 ∷ [])) c.args.self.now.state.stack c.args.frame c.args.edge c.in-Low.high c.args.frames.now.items c.await_high.new.frames.items (quantifying_carries c.args.all c.args.list c.args.self.now c.push.new.self (c.args.self.now.state.stack ++ c.args.edge.0 ∷ []) (works_same c.args.self.now c.push.new.self (c.args.self.now.state.stack ++ c.args.edge.0 ∷ []) c.push.ensures.same)) (held_more c.args.self.now.state c.args.self.now.state.stack (c.args.edge.0 ∷ []) c.args.frame.asked.0 c.requires.held) c.in-Low.is c.requires.answered c.await_high.ensures

pub returns-in_ok-push-in-Low-clause-works : goal.returns-in_ok-push-in-Low-clause-works
returns-in_ok-push-in-Low-clause-works c = works_same c.args.self.now c.push.new.self c.args.self.now.state.stack c.push.ensures.same

pub returns-in_ok-push-in-Low-clause-moves : goal.returns-in_ok-push-in-Low-clause-moves
returns-in_ok-push-in-Low-clause-moves c = moves_low c.args.frame c.args.edge c.in-Low.high c.args.frames.now.items c.await_high.new.frames.items c.args.self.now.state.stack c.push.new.self.state.stack c.requires.top c.in-Low.is c.await_high.ensures c.in_ok-push-in-Low.ensures.pushed

pub join_quantified-requires-clause-halves : goal.join_quantified-requires-clause-halves
join_quantified-requires-clause-halves c = answered_high (quantifying c.args.all c.args.list c.args.self.now) c.args.frame c.in-High.low c.args.edge.0 c.in-High.is c.requires.answered

pub returns-in_ok-whole-in-High-clause-gives : goal.returns-in_ok-whole-in-High-clause-gives
returns-in_ok-whole-in-High-clause-gives c = gives_whole (quantifying c.args.all c.args.list c.pop.new.self) c.args.frame c.in_ok-whole-in-High.whole c.args.frames.now.items c.drop_top-in-High.new.frames.items c.drop_top-in-High.ensures (over_remembered c.join_quantified.new.self c.pop.new.self c.args.all c.args.list c.args.frame.asked.0 c.in_ok-whole-in-High.whole.0 c.pop.ensures.same (held_there c.args.self.now c.join_quantified.new.self c.args.self.now.state.stack c.args.frame.asked.0 c.join_quantified.ensures.works c.requires.held).0 c.in_ok-whole-in-High.ensures.given)

pub returns-in_ok-whole-in-High-clause-works : goal.returns-in_ok-whole-in-High-clause-works
returns-in_ok-whole-in-High-clause-works c = works_remembered c.args.self.now c.join_quantified.new.self c.pop.new.self c.args.self.now.state.stack c.join_quantified.ensures.works c.pop.ensures.same

pub returns-in_ok-whole-in-High-clause-moves : goal.returns-in_ok-whole-in-High-clause-moves
returns-in_ok-whole-in-High-clause-moves c = moves_high c.args.frame c.in-High.low c.args.frames.now.items c.drop_top-in-High.new.frames.items c.args.self.now.state.stack c.join_quantified.new.self.state.stack c.pop.new.self.state.stack c.requires.top c.in-High.is c.drop_top-in-High.ensures c.join_quantified.ensures.stack c.pop.ensures.popped
