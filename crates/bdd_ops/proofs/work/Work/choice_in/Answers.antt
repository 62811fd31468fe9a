use Rattle.std.proofs.Common.{◌≡◌, ◌<◌, length, Err, subst, sym, ◌∙◌, ap, rules}
use Rattle.bdd_store.proofs.Whole.{fault_of}
use Rattle.bdd_ops.specs.Questions.{AreHeld, choosing}
use Rattle.bdd_ops.specs.Frames.{answers_of}
use Rattle.bdd_ops.proofs.StayLemmas.{works_none, works_behind}
use Rattle.bdd_ops.proofs.StackLemmas.{stack_begins, stack_asked}
use Rattle.bdd_ops.proofs.QuestionLemmas.{begins, asked_live, whole_given, given_answers, given_held, given_goes_on, given_ends, on_stack, spent_giving, asked_goes_on, asked_ends}
use Rattle.bdd_ops.proofs.ChoiceLemmas.{ArePartsOf, choosing_has_parts, choosing_parts, choosing_closed, choosing_carries, choice_live, choice_held_now, chosen_before, choice_result, choice_wider}
use Rattle.bdd_ops.proofs.work.Work.choice_in.Goals as goal

pub loop-turn-init : goal.loop-turn-init
loop-turn-init c = record {
  works = works_none c.args.self.now c.args.self.now.state.stack;
  stack = stack_begins c.args.self.now.state.stack c.args.frames.now.items c.requires.none_waits;
  under_way = begins (choosing c.args.self.now) c.args.whole c.args.frames.now.items (choice_live c.args.self.now c.args.self.now.state.stack c.args.whole c.requires.held) c.requires.none_waits;
}

pub ask_choice-requires : goal.ask_choice-requires
ask_choice-requires c = asked_live (choosing c.loop-turn.self) c.args.whole c.in-Ask.asked c.loop-turn.frames.items c.loop-turn.turn c.in-Ask.is c.loop-turn.invariant.under_way

pub loop-turn-preserved-in-Ask : goal.loop-turn-preserved-in-Ask
loop-turn-preserved-in-Ask c =
    let op = choosing c.loop-turn.self in
    record {
      works = c.loop-turn.invariant.works;
      stack = stack_asked op c.in-Ask.asked c.args.self.now.state.stack c.loop-turn.self.state.stack c.loop-turn.frames.items c.ask_choice.new.frames.items c.in_ok-turn-in-Ask.turn c.loop-turn.invariant.stack c.in_ok-turn-in-Ask.ensures.asks;
      under_way = asked_goes_on op c.args.whole c.in-Ask.asked c.loop-turn.frames.items c.ask_choice.new.frames.items c.loop-turn.turn c.in_ok-turn-in-Ask.turn (choosing_has_parts c.loop-turn.self) c.in-Ask.is c.loop-turn.invariant.under_way c.in_ok-turn-in-Ask.ensures.asks;
    }

pub loop-turn-smaller-in-Ask : goal.loop-turn-smaller-in-Ask
loop-turn-smaller-in-Ask c = asked_ends (choosing c.loop-turn.self) c.in-Ask.asked c.loop-turn.frames.items c.ask_choice.new.frames.items c.loop-turn.turn c.in_ok-turn-in-Ask.turn (choosing_has_parts c.loop-turn.self) c.in-Ask.is c.in_ok-turn-in-Ask.ensures.asks

pub returns-in_err-turn-in-Ask-clause-over : goal.returns-in_err-turn-in-Ask-clause-over
returns-in_err-turn-in-Ask-clause-over c = (answers_of c.loop-turn.frames.items, c.loop-turn.invariant.stack)

pub returns-in_default-clause-choice : goal.returns-in_default-clause-choice
returns-in_default-clause-choice c =
    chosen_before c.args.self.now c.loop-turn.self c.args.self.now.state.stack c.args.whole c.in-Given.edge.0 c.loop-turn.invariant.works c.requires.held
    (whole_given (choosing c.loop-turn.self) c.args.whole c.in-Given.edge c.loop-turn.frames.items c.loop-turn.turn c.in_default.ensures c.in-Given.is c.loop-turn.invariant.under_way)

pub returns-in_default-clause-over : goal.returns-in_default-clause-over
returns-in_default-clause-over c = (answers_of c.loop-turn.frames.items, c.loop-turn.invariant.stack)

pub give_choice-requires-clause-answered : goal.give_choice-requires-clause-answered
give_choice-requires-clause-answered c = given_answers (choosing c.loop-turn.self) c.args.whole c.in-Given.edge c.loop-turn.frames.items c.in-Some.ensures.rest c.in-Some.frame c.loop-turn.turn c.in-Given.is c.in-Some.ensures.is c.loop-turn.invariant.under_way

pub give_choice-requires-clause-held : goal.give_choice-requires-clause-held
give_choice-requires-clause-held c = given_held (choosing c.loop-turn.self) (AreHeld c.loop-turn.self c.loop-turn.self.state.stack) c.args.whole c.in-Given.edge c.loop-turn.frames.items c.in-Some.ensures.rest c.in-Some.frame c.loop-turn.turn (choosing_closed c.loop-turn.self c.loop-turn.self.state.stack) (choice_held_now c.args.self.now c.loop-turn.self c.args.self.now.state.stack c.loop-turn.self.state.stack (answers_of c.loop-turn.frames.items) c.args.whole c.loop-turn.invariant.works c.loop-turn.invariant.stack c.requires.held) c.in-Given.is c.in-Some.ensures.is c.loop-turn.invariant.under_way

pub returns-in_err-turn-in-Given-clause-works : goal.returns-in_err-turn-in-Given-clause-works
returns-in_err-turn-in-Given-clause-works c = works_behind c.args.self.now c.loop-turn.self c.give_choice.new.self c.args.self.now.state.stack c.loop-turn.self.state.stack (answers_of c.loop-turn.frames.items) c.loop-turn.invariant.works c.loop-turn.invariant.stack c.give_choice.ensures.works

pub returns-in_err-turn-in-Given-clause-over : goal.returns-in_err-turn-in-Given-clause-over
returns-in_err-turn-in-Given-clause-over c = (answers_of c.loop-turn.frames.items, c.in_err-turn-in-Given.ensures.refused ∙ c.loop-turn.invariant.stack)

pub returns-in_err-turn-in-Given-clause-full : goal.returns-in_err-turn-in-Given-clause-full
returns-in_err-turn-in-Given-clause-full c full =
    let same : c.from_residual-in_err-turn-in-Given.result ≡ Err c.in_err-turn-in-Given.field-0.0 = search rules in
    spent_giving (choosing c.loop-turn.self) (ArePartsOf c.loop-turn.self) c.args.whole c.in-Given.edge c.loop-turn.frames.items c.in-Some.ensures.rest c.in-Some.frame c.loop-turn.turn c.loop-turn.self c.give_choice.new.self c.args.self.now.state.stack c.loop-turn.self.state.stack _ _ (choosing_parts c.loop-turn.self) c.in-Given.is c.in-Some.ensures.is c.loop-turn.invariant.under_way c.loop-turn.invariant.stack c.give_choice.ensures.works
    (λ q n within has. choice_result c.args.self.now c.loop-turn.self c.args.self.now.state.stack c.args.whole q n c.loop-turn.invariant.works c.requires.held within has)
    (λ within d made. choice_wider c.args.self.now c.loop-turn.self c.args.self.now.state.stack c.args.whole c.in-Some.frame.asked c.loop-turn.invariant.works c.requires.held within d made) (c.give_choice.ensures.full (c.in_err-turn-in-Given.was ∙ ap Err (fault_of _ _ (sym same ∙ full))))

pub loop-turn-preserved : goal.loop-turn-preserved
loop-turn-preserved c =
    let before = choosing c.loop-turn.self in
    let after = choosing c.give_choice.new.self in
    record {
      works = works_behind c.args.self.now c.loop-turn.self c.give_choice.new.self c.args.self.now.state.stack c.loop-turn.self.state.stack (answers_of c.loop-turn.frames.items) c.loop-turn.invariant.works c.loop-turn.invariant.stack c.give_choice.ensures.works;
      stack = c.in_ok-turn-in-Given.ensures.moves c.args.self.now.state.stack c.loop-turn.invariant.stack;
      under_way = given_goes_on before after (AreHeld c.loop-turn.self c.loop-turn.self.state.stack) c.loop-turn.self.state.stack c.args.whole c.in-Given.edge c.loop-turn.frames.items c.in-Some.ensures.rest c.give_choice.new.frames.items c.in-Some.frame c.loop-turn.turn c.in_ok-turn-in-Given.turn (choosing_carries c.loop-turn.self c.give_choice.new.self c.loop-turn.self.state.stack c.give_choice.ensures.works) (choice_held_now c.args.self.now c.loop-turn.self c.args.self.now.state.stack c.loop-turn.self.state.stack (answers_of c.loop-turn.frames.items) c.args.whole c.loop-turn.invariant.works c.loop-turn.invariant.stack c.requires.held) (on_stack c.args.self.now.state.stack c.loop-turn.self.state.stack c.loop-turn.frames.items c.loop-turn.invariant.stack) c.in-Given.is c.in-Some.ensures.is c.loop-turn.invariant.under_way (c.in_ok-turn-in-Given.ensures.gives c.in-Some.ensures.rest c.in-Some.ensures.is);
    }

pub loop-turn-smaller : goal.loop-turn-smaller
loop-turn-smaller c =
    given_ends (choosing c.loop-turn.self) (choosing c.give_choice.new.self) c.in-Given.edge c.loop-turn.frames.items c.in-Some.ensures.rest c.give_choice.new.frames.items c.in-Some.frame c.loop-turn.turn c.in_ok-turn-in-Given.turn (choosing_has_parts c.give_choice.new.self) c.give_choice.ensures.works.keeps.levels c.in-Given.is c.in-Some.ensures.is (c.in_ok-turn-in-Given.ensures.gives c.in-Some.ensures.rest c.in-Some.ensures.is)
