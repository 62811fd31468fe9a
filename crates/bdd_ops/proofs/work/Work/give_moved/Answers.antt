use Rattle.std.proofs.Common.{◌≡◌, ◌++◌, ◌∷◌, [], Err, sym, ◌∙◌, ap, rules}
use Rattle.bdd_store.proofs.Whole.{fault_of}
use Rattle.bdd_ops.specs.Questions.{moving}
use Rattle.bdd_ops.proofs.StayLemmas.{held_there, works_same, works_remembered}
use Rattle.bdd_ops.proofs.StackLemmas.{moves_low, moves_high}
use Rattle.bdd_ops.proofs.QuestionLemmas.{answered_high, gives_low, gives_whole}
use Rattle.bdd_store.specs.State.{IsHeldBy}
use Rattle.bdd_store.proofs.Held.{held_more}
use Rattle.bdd_ops.proofs.ShiftLemmas.{moving_carries, shifted_remembered}
use Rattle.bdd_ops.proofs.work.Work.give_moved.Goals as goal

pub push-requires : goal.push-requires
push-requires c = c.requires.answered.answer_is.live

pub returns-in_ok-push-in-Low-clause-gives : goal.returns-in_ok-push-in-Low-clause-gives
returns-in_ok-push-in-Low-clause-gives c =
    gives_low (moving c.args.list c.args.self.now) (moving c.args.list c.push.new.self) (λ a. IsHeldBy c.args.self.now.state (c.args.self.now.state.stack ++ c.args.edge.0 ∷ []) a.0) c.args.self.now.state.stack c.args.frame c.args.edge c.in-Low.high c.args.frames.now.items c.await_high.new.frames.items (moving_carries c.args.list c.args.self.now c.push.new.self (c.args.self.now.state.stack ++ c.args.edge.0 ∷ []) (works_same c.args.self.now c.push.new.self (c.args.self.now.state.stack ++ c.args.edge.0 ∷ []) c.push.ensures.same)) (held_more c.args.self.now.state c.args.self.now.state.stack (c.args.edge.0 ∷ []) c.args.frame.asked.0 c.requires.held) c.in-Low.is c.requires.answered c.await_high.ensures

pub returns-in_ok-push-in-Low-clause-works : goal.returns-in_ok-push-in-Low-clause-works
returns-in_ok-push-in-Low-clause-works c = works_same c.args.self.now c.push.new.self c.args.self.now.state.stack c.push.ensures.same

pub returns-in_ok-push-in-Low-clause-moves : goal.returns-in_ok-push-in-Low-clause-moves
returns-in_ok-push-in-Low-clause-moves c = moves_low c.args.frame c.args.edge c.in-Low.high c.args.frames.now.items c.await_high.new.frames.items c.args.self.now.state.stack c.push.new.self.state.stack c.requires.top c.in-Low.is c.await_high.ensures c.in_ok-push-in-Low.ensures.pushed

pub join_moved-requires-clause-halves : goal.join_moved-requires-clause-halves
join_moved-requires-clause-halves c = answered_high (moving c.args.list c.args.self.now) c.args.frame c.in-High.low c.args.edge.0 c.in-High.is c.requires.answered

pub returns-in_ok-whole-in-High-clause-gives : goal.returns-in_ok-whole-in-High-clause-gives
returns-in_ok-whole-in-High-clause-gives c = gives_whole (moving c.args.list c.pop.new.self) c.args.frame c.in_ok-whole-in-High.whole c.args.frames.now.items c.drop_top.new.frames.items c.drop_top.ensures (shifted_remembered c.join_moved.new.self c.pop.new.self c.args.list c.args.frame.asked.0 c.in_ok-whole-in-High.whole.0 c.pop.ensures.same (held_there c.args.self.now c.join_moved.new.self c.args.self.now.state.stack c.args.frame.asked.0 c.join_moved.ensures.works c.requires.held).0 c.in_ok-whole-in-High.ensures.given)

pub returns-in_ok-whole-in-High-clause-works : goal.returns-in_ok-whole-in-High-clause-works
returns-in_ok-whole-in-High-clause-works c = works_remembered c.args.self.now c.join_moved.new.self c.pop.new.self c.args.self.now.state.stack c.join_moved.ensures.works c.pop.ensures.same

pub returns-in_ok-whole-in-High-clause-moves : goal.returns-in_ok-whole-in-High-clause-moves
returns-in_ok-whole-in-High-clause-moves c = moves_high c.args.frame c.in-High.low c.args.frames.now.items c.drop_top.new.frames.items c.args.self.now.state.stack c.join_moved.new.self.state.stack c.pop.new.self.state.stack c.requires.top c.in-High.is c.drop_top.ensures c.join_moved.ensures.stack c.pop.ensures.popped
