use Rattle.std.proofs.Common.{◌≡◌, ◌<◌, length, Err, subst, sym, ◌∙◌, ap, rules}
use Rattle.bdd_store.proofs.Whole.{fault_of}
use Rattle.bdd_ops.specs.Questions.{quantifying}
use Rattle.bdd_ops.specs.Frames.{answers_of}
use Rattle.bdd_ops.proofs.StayLemmas.{works_none, works_behind}
use Rattle.bdd_ops.proofs.StackLemmas.{stack_begins, stack_asked}
use Rattle.bdd_ops.proofs.QuestionLemmas.{begins, asked_live, whole_given, given_answers, given_held, given_goes_on, given_ends, on_stack, spent_giving, asked_goes_on, asked_ends}
use Rattle.bdd_ops.proofs.StayLemmas.{held_later, held_over}
use Rattle.bdd_ops.proofs.QuantifiedLemmas.{IsWithin, HeldEdge, quantifying_has_parts, quantifying_parts, quantifying_closed, quantifying_carries, over_before, over_result, over_wider}
use Rattle.bdd_ops.proofs.work.Work.quantified_in.Goals as goal

pub loop-turn-init : goal.loop-turn-init
loop-turn-init c = record {
  works = works_none c.args.self.now c.args.self.now.state.stack;
  stack = stack_begins c.args.self.now.state.stack c.args.frames.now.items c.requires.none_waits;
  under_way = begins (quantifying c.args.all c.args.list c.args.self.now) c.args.whole c.args.frames.now.items (c.requires.held.live) c.requires.none_waits;
}

pub ask_quantified-requires-clause-list : goal.ask_quantified-requires-clause-list
ask_quantified-requires-clause-list c = subst (λ lists. c.args.list < length lists) (sym c.loop-turn.invariant.works.lists) c.requires.list

pub ask_quantified-requires-clause-live : goal.ask_quantified-requires-clause-live
ask_quantified-requires-clause-live c = asked_live (quantifying c.args.all c.args.list c.loop-turn.self) c.args.whole c.in-Ask.asked c.loop-turn.frames.items c.loop-turn.turn c.in-Ask.is c.loop-turn.invariant.under_way

pub loop-turn-preserved-in-Ask : goal.loop-turn-preserved-in-Ask
loop-turn-preserved-in-Ask c =
    let op = quantifying c.args.all c.args.list c.loop-turn.self in
    record {
      works = c.loop-turn.invariant.works;
      stack = stack_asked op c.in-Ask.asked c.args.self.now.state.stack c.loop-turn.self.state.stack c.loop-turn.frames.items c.ask_quantified.new.frames.items c.in_ok-turn-in-Ask.turn c.loop-turn.invariant.stack c.in_ok-turn-in-Ask.ensures.asks;
      under_way = asked_goes_on op c.args.whole c.in-Ask.asked c.loop-turn.frames.items c.ask_quantified.new.frames.items c.loop-turn.turn c.in_ok-turn-in-Ask.turn (quantifying_has_parts c.args.all c.args.list c.loop-turn.self) c.in-Ask.is c.loop-turn.invariant.under_way c.in_ok-turn-in-Ask.ensures.asks;
    }

pub loop-turn-smaller-in-Ask : goal.loop-turn-smaller-in-Ask
loop-turn-smaller-in-Ask c = asked_ends (quantifying c.args.all c.args.list c.loop-turn.self) c.in-Ask.asked c.loop-turn.frames.items c.ask_quantified.new.frames.items c.loop-turn.turn c.in_ok-turn-in-Ask.turn (quantifying_has_parts c.args.all c.args.list c.loop-turn.self) c.in-Ask.is c.in_ok-turn-in-Ask.ensures.asks

pub returns-in_err-turn-in-Ask-clause-over : goal.returns-in_err-turn-in-Ask-clause-over
returns-in_err-turn-in-Ask-clause-over c = (answers_of c.loop-turn.frames.items, c.loop-turn.invariant.stack)

pub returns-in_default-clause-given : goal.returns-in_default-clause-given
returns-in_default-clause-given c =
    over_before c.args.self.now c.loop-turn.self c.args.self.now.state.stack c.args.all c.args.list c.args.whole.0 c.in-Given.edge.0 c.loop-turn.invariant.works c.requires.held
    (whole_given (quantifying c.args.all c.args.list c.loop-turn.self) c.args.whole c.in-Given.edge c.loop-turn.frames.items c.loop-turn.turn c.in_default.ensures c.in-Given.is c.loop-turn.invariant.under_way)

pub returns-in_default-clause-over : goal.returns-in_default-clause-over
returns-in_default-clause-over c = (answers_of c.loop-turn.frames.items, c.loop-turn.invariant.stack)

pub give_quantified-requires-clause-list : goal.give_quantified-requires-clause-list
give_quantified-requires-clause-list c = subst (λ lists. c.args.list < length lists) (sym c.loop-turn.invariant.works.lists) c.requires.list

pub give_quantified-requires-clause-answered : goal.give_quantified-requires-clause-answered
give_quantified-requires-clause-answered c = given_answers (quantifying c.args.all c.args.list c.loop-turn.self) c.args.whole c.in-Given.edge c.loop-turn.frames.items c.in-Some.ensures.rest c.in-Some.frame c.loop-turn.turn c.in-Given.is c.in-Some.ensures.is c.loop-turn.invariant.under_way

pub give_quantified-requires-clause-held : goal.give_quantified-requires-clause-held
give_quantified-requires-clause-held c = given_held (quantifying c.args.all c.args.list c.loop-turn.self) (HeldEdge c.loop-turn.self c.loop-turn.self.state.stack) c.args.whole c.in-Given.edge c.loop-turn.frames.items c.in-Some.ensures.rest c.in-Some.frame c.loop-turn.turn (quantifying_closed c.args.all c.args.list c.loop-turn.self c.loop-turn.self.state.stack) (held_over c.loop-turn.self.state c.args.self.now.state.stack c.loop-turn.self.state.stack (answers_of c.loop-turn.frames.items) c.args.whole.0 c.loop-turn.invariant.stack (held_later c.args.self.now c.loop-turn.self c.args.self.now.state.stack c.args.whole.0 c.loop-turn.invariant.works c.requires.held)) c.in-Given.is c.in-Some.ensures.is c.loop-turn.invariant.under_way

pub returns-in_err-turn-in-Given-clause-works : goal.returns-in_err-turn-in-Given-clause-works
returns-in_err-turn-in-Given-clause-works c = works_behind c.args.self.now c.loop-turn.self c.give_quantified.new.self c.args.self.now.state.stack c.loop-turn.self.state.stack (answers_of c.loop-turn.frames.items) c.loop-turn.invariant.works c.loop-turn.invariant.stack c.give_quantified.ensures.works

pub returns-in_err-turn-in-Given-clause-over : goal.returns-in_err-turn-in-Given-clause-over
returns-in_err-turn-in-Given-clause-over c = (answers_of c.loop-turn.frames.items, c.in_err-turn-in-Given.ensures.refused ∙ c.loop-turn.invariant.stack)

pub returns-in_err-turn-in-Given-clause-full : goal.returns-in_err-turn-in-Given-clause-full
returns-in_err-turn-in-Given-clause-full c full =
    let same : c.from_residual-in_err-turn-in-Given.result ≡ Err c.in_err-turn-in-Given.field-0.0 = search rules in
    spent_giving (quantifying c.args.all c.args.list c.loop-turn.self) (IsWithin c.loop-turn.self) c.args.whole c.in-Given.edge c.loop-turn.frames.items c.in-Some.ensures.rest c.in-Some.frame c.loop-turn.turn c.loop-turn.self c.give_quantified.new.self c.args.self.now.state.stack c.loop-turn.self.state.stack _ _ (quantifying_parts c.args.all c.args.list c.loop-turn.self) c.in-Given.is c.in-Some.ensures.is c.loop-turn.invariant.under_way c.loop-turn.invariant.stack c.give_quantified.ensures.works
    (λ q n within has. over_result c.args.self.now c.loop-turn.self c.args.self.now.state.stack c.args.all c.args.list c.args.whole q n c.loop-turn.invariant.works c.requires.held within has)
    (λ within d made. over_wider c.args.self.now c.loop-turn.self c.args.self.now.state.stack c.args.all c.args.list c.args.whole c.in-Some.frame.asked c.loop-turn.invariant.works c.requires.held within d made) (c.give_quantified.ensures.full (c.in_err-turn-in-Given.was ∙ ap Err (fault_of _ _ (sym same ∙ full))))

pub loop-turn-preserved : goal.loop-turn-preserved
loop-turn-preserved c =
    let before = quantifying c.args.all c.args.list c.loop-turn.self in
    let after = quantifying c.args.all c.args.list c.give_quantified.new.self in
    record {
      works = works_behind c.args.self.now c.loop-turn.self c.give_quantified.new.self c.args.self.now.state.stack c.loop-turn.self.state.stack (answers_of c.loop-turn.frames.items) c.loop-turn.invariant.works c.loop-turn.invariant.stack c.give_quantified.ensures.works;
      stack = c.in_ok-turn-in-Given.ensures.moves c.args.self.now.state.stack c.loop-turn.invariant.stack;
      under_way = given_goes_on before after (HeldEdge c.loop-turn.self c.loop-turn.self.state.stack) c.loop-turn.self.state.stack c.args.whole c.in-Given.edge c.loop-turn.frames.items c.in-Some.ensures.rest c.give_quantified.new.frames.items c.in-Some.frame c.loop-turn.turn c.in_ok-turn-in-Given.turn (quantifying_carries c.args.all c.args.list c.loop-turn.self c.give_quantified.new.self c.loop-turn.self.state.stack c.give_quantified.ensures.works) (held_over c.loop-turn.self.state c.args.self.now.state.stack c.loop-turn.self.state.stack (answers_of c.loop-turn.frames.items) c.args.whole.0 c.loop-turn.invariant.stack (held_later c.args.self.now c.loop-turn.self c.args.self.now.state.stack c.args.whole.0 c.loop-turn.invariant.works c.requires.held)) (on_stack c.args.self.now.state.stack c.loop-turn.self.state.stack c.loop-turn.frames.items c.loop-turn.invariant.stack) c.in-Given.is c.in-Some.ensures.is c.loop-turn.invariant.under_way (c.in_ok-turn-in-Given.ensures.gives c.in-Some.ensures.rest c.in-Some.ensures.is);
    }

pub loop-turn-smaller : goal.loop-turn-smaller
loop-turn-smaller c =
    given_ends (quantifying c.args.all c.args.list c.loop-turn.self) (quantifying c.args.all c.args.list c.give_quantified.new.self) c.in-Given.edge c.loop-turn.frames.items c.in-Some.ensures.rest c.give_quantified.new.frames.items c.in-Some.frame c.loop-turn.turn c.in_ok-turn-in-Given.turn (quantifying_has_parts c.args.all c.args.list c.give_quantified.new.self) c.give_quantified.ensures.works.keeps.levels c.in-Given.is c.in-Some.ensures.is (c.in_ok-turn-in-Given.ensures.gives c.in-Some.ensures.rest c.in-Some.ensures.is)
