use Rattle.std.proofs.Common.{◌≡◌, ◌<◌, length, Err, subst, sym, ◌∙◌, ap, rules}
use Rattle.bdd_store.proofs.Whole.{fault_of}
use Rattle.bdd_ops.specs.Questions.{AreBothHeld, relating}
use Rattle.bdd_ops.specs.Frames.{answers_of}
use Rattle.bdd_ops.proofs.StayLemmas.{works_none, works_behind}
use Rattle.bdd_ops.proofs.StackLemmas.{stack_begins, stack_asked}
use Rattle.bdd_ops.proofs.QuestionLemmas.{begins, asked_live, whole_given, given_answers, given_held, given_goes_on, given_ends, on_stack, spent_giving, asked_held, asked_goes_behind, asked_ends_behind, spent_asking}
use Rattle.bdd_ops.proofs.RelatedLemmas.{AreWithin, both_live, both_held_now, relating_has_parts, relating_parts, relating_closed, relating_carries, related_before, related_result, related_wider}
use Rattle.bdd_ops.proofs.work.Work.related_in.Goals as goal

pub loop-turn-init : goal.loop-turn-init
loop-turn-init c = record {
  works = works_none c.args.self.now c.args.self.now.state.stack;
  stack = stack_begins c.args.self.now.state.stack c.args.frames.now.items c.requires.none_waits;
  under_way = begins (relating c.args.list c.args.self.now) c.args.whole c.args.frames.now.items (both_live c.args.self.now c.args.self.now.state.stack c.args.whole c.requires.held) c.requires.none_waits;
}

pub ask_related-requires-clause-list : goal.ask_related-requires-clause-list
ask_related-requires-clause-list c = subst (λ lists. c.args.list < length lists) (sym c.loop-turn.invariant.works.lists) c.requires.list

pub ask_related-requires-clause-held : goal.ask_related-requires-clause-held
ask_related-requires-clause-held c = asked_held (relating c.args.list c.loop-turn.self) (AreBothHeld c.loop-turn.self c.loop-turn.self.state.stack) c.args.whole c.in-Ask.asked c.loop-turn.frames.items c.loop-turn.turn (relating_closed c.args.list c.loop-turn.self c.loop-turn.self.state.stack) (both_held_now c.args.self.now c.loop-turn.self c.args.self.now.state.stack c.loop-turn.self.state.stack (answers_of c.loop-turn.frames.items) c.args.whole c.loop-turn.invariant.works c.loop-turn.invariant.stack c.requires.held) c.in-Ask.is c.loop-turn.invariant.under_way

pub returns-in_err-turn-in-Ask-clause-works : goal.returns-in_err-turn-in-Ask-clause-works
returns-in_err-turn-in-Ask-clause-works c = works_behind c.args.self.now c.loop-turn.self c.ask_related.new.self c.args.self.now.state.stack c.loop-turn.self.state.stack (answers_of c.loop-turn.frames.items) c.loop-turn.invariant.works c.loop-turn.invariant.stack c.ask_related.ensures.works

pub returns-in_err-turn-in-Ask-clause-over : goal.returns-in_err-turn-in-Ask-clause-over
returns-in_err-turn-in-Ask-clause-over c = (answers_of c.loop-turn.frames.items, c.ask_related.ensures.stack ∙ c.loop-turn.invariant.stack)

pub returns-in_err-turn-in-Ask-clause-full : goal.returns-in_err-turn-in-Ask-clause-full
returns-in_err-turn-in-Ask-clause-full c full =
    let same : c.from_residual.result ≡ Err c.in_err-turn-in-Ask.field-0.0 = search rules in
    spent_asking (relating c.args.list c.loop-turn.self) (AreWithin c.loop-turn.self) c.args.whole c.in-Ask.asked c.loop-turn.frames.items c.loop-turn.turn c.loop-turn.self c.ask_related.new.self c.args.self.now.state.stack c.loop-turn.self.state.stack _ _ (relating_parts c.args.list c.loop-turn.self) c.in-Ask.is c.loop-turn.invariant.under_way c.loop-turn.invariant.stack c.ask_related.ensures.works
    (λ q n within has. related_result c.args.self.now c.loop-turn.self c.args.self.now.state.stack c.args.list c.args.whole q n c.loop-turn.invariant.works c.requires.held within has)
    (λ within d made. related_wider c.args.self.now c.loop-turn.self c.args.self.now.state.stack c.args.list c.args.whole c.in-Ask.asked c.loop-turn.invariant.works c.requires.held within d made) (c.ask_related.ensures.full (c.in_err-turn-in-Ask.was ∙ ap Err (fault_of _ _ (sym same ∙ full))))

pub loop-turn-preserved-in-Ask : goal.loop-turn-preserved-in-Ask
loop-turn-preserved-in-Ask c =
    let before = relating c.args.list c.loop-turn.self in
    let after = relating c.args.list c.ask_related.new.self in
    record {
      works = works_behind c.args.self.now c.loop-turn.self c.ask_related.new.self c.args.self.now.state.stack c.loop-turn.self.state.stack (answers_of c.loop-turn.frames.items) c.loop-turn.invariant.works c.loop-turn.invariant.stack c.ask_related.ensures.works;
      stack = stack_asked after c.in-Ask.asked c.args.self.now.state.stack c.ask_related.new.self.state.stack c.loop-turn.frames.items c.ask_related.new.frames.items c.in_ok-turn-in-Ask.turn (c.ask_related.ensures.stack ∙ c.loop-turn.invariant.stack) c.in_ok-turn-in-Ask.ensures.asks;
      under_way = asked_goes_behind before after (AreBothHeld c.loop-turn.self c.loop-turn.self.state.stack) c.loop-turn.self.state.stack c.args.whole c.in-Ask.asked c.loop-turn.frames.items c.ask_related.new.frames.items c.loop-turn.turn c.in_ok-turn-in-Ask.turn (relating_carries c.args.list c.loop-turn.self c.ask_related.new.self c.loop-turn.self.state.stack c.ask_related.ensures.works) (both_held_now c.args.self.now c.loop-turn.self c.args.self.now.state.stack c.loop-turn.self.state.stack (answers_of c.loop-turn.frames.items) c.args.whole c.loop-turn.invariant.works c.loop-turn.invariant.stack c.requires.held) (on_stack c.args.self.now.state.stack c.loop-turn.self.state.stack c.loop-turn.frames.items c.loop-turn.invariant.stack) c.in-Ask.is c.loop-turn.invariant.under_way c.in_ok-turn-in-Ask.ensures.asks;
    }

pub loop-turn-smaller-in-Ask : goal.loop-turn-smaller-in-Ask
loop-turn-smaller-in-Ask c =
    asked_ends_behind (relating c.args.list c.loop-turn.self) (relating c.args.list c.ask_related.new.self) (AreBothHeld c.loop-turn.self c.loop-turn.self.state.stack) c.loop-turn.self.state.stack c.args.whole c.in-Ask.asked c.loop-turn.frames.items c.ask_related.new.frames.items c.loop-turn.turn c.in_ok-turn-in-Ask.turn (relating_carries c.args.list c.loop-turn.self c.ask_related.new.self c.loop-turn.self.state.stack c.ask_related.ensures.works) (both_held_now c.args.self.now c.loop-turn.self c.args.self.now.state.stack c.loop-turn.self.state.stack (answers_of c.loop-turn.frames.items) c.args.whole c.loop-turn.invariant.works c.loop-turn.invariant.stack c.requires.held) c.in-Ask.is c.loop-turn.invariant.under_way c.in_ok-turn-in-Ask.ensures.asks

pub returns-in_default-clause-given : goal.returns-in_default-clause-given
returns-in_default-clause-given c =
    related_before c.args.self.now c.loop-turn.self c.args.self.now.state.stack c.args.list c.args.whole c.in-Given.edge.0 c.loop-turn.invariant.works c.requires.held
    (whole_given (relating c.args.list c.loop-turn.self) c.args.whole c.in-Given.edge c.loop-turn.frames.items c.loop-turn.turn c.in_default.ensures c.in-Given.is c.loop-turn.invariant.under_way)

pub returns-in_default-clause-over : goal.returns-in_default-clause-over
returns-in_default-clause-over c = (answers_of c.loop-turn.frames.items, c.loop-turn.invariant.stack)

pub give_related-requires-clause-list : goal.give_related-requires-clause-list
give_related-requires-clause-list c = subst (λ lists. c.args.list < length lists) (sym c.loop-turn.invariant.works.lists) c.requires.list

pub give_related-requires-clause-answered : goal.give_related-requires-clause-answered
give_related-requires-clause-answered c = given_answers (relating c.args.list c.loop-turn.self) c.args.whole c.in-Given.edge c.loop-turn.frames.items c.in-Some.ensures.rest c.in-Some.frame c.loop-turn.turn c.in-Given.is c.in-Some.ensures.is c.loop-turn.invariant.under_way

pub give_related-requires-clause-held : goal.give_related-requires-clause-held
give_related-requires-clause-held c = given_held (relating c.args.list c.loop-turn.self) (AreBothHeld c.loop-turn.self c.loop-turn.self.state.stack) c.args.whole c.in-Given.edge c.loop-turn.frames.items c.in-Some.ensures.rest c.in-Some.frame c.loop-turn.turn (relating_closed c.args.list c.loop-turn.self c.loop-turn.self.state.stack) (both_held_now c.args.self.now c.loop-turn.self c.args.self.now.state.stack c.loop-turn.self.state.stack (answers_of c.loop-turn.frames.items) c.args.whole c.loop-turn.invariant.works c.loop-turn.invariant.stack c.requires.held) c.in-Given.is c.in-Some.ensures.is c.loop-turn.invariant.under_way

pub returns-in_err-turn-in-Given-clause-works : goal.returns-in_err-turn-in-Given-clause-works
returns-in_err-turn-in-Given-clause-works c = works_behind c.args.self.now c.loop-turn.self c.give_related.new.self c.args.self.now.state.stack c.loop-turn.self.state.stack (answers_of c.loop-turn.frames.items) c.loop-turn.invariant.works c.loop-turn.invariant.stack c.give_related.ensures.works

pub returns-in_err-turn-in-Given-clause-over : goal.returns-in_err-turn-in-Given-clause-over
returns-in_err-turn-in-Given-clause-over c = (answers_of c.loop-turn.frames.items, c.in_err-turn-in-Given.ensures.refused ∙ c.loop-turn.invariant.stack)

pub returns-in_err-turn-in-Given-clause-full : goal.returns-in_err-turn-in-Given-clause-full
returns-in_err-turn-in-Given-clause-full c full =
    let same : c.from_residual-in_err-turn-in-Given.result ≡ Err c.in_err-turn-in-Given.field-0.0 = search rules in
    spent_giving (relating c.args.list c.loop-turn.self) (AreWithin c.loop-turn.self) c.args.whole c.in-Given.edge c.loop-turn.frames.items c.in-Some.ensures.rest c.in-Some.frame c.loop-turn.turn c.loop-turn.self c.give_related.new.self c.args.self.now.state.stack c.loop-turn.self.state.stack _ _ (relating_parts c.args.list c.loop-turn.self) c.in-Given.is c.in-Some.ensures.is c.loop-turn.invariant.under_way c.loop-turn.invariant.stack c.give_related.ensures.works
    (λ q n within has. related_result c.args.self.now c.loop-turn.self c.args.self.now.state.stack c.args.list c.args.whole q n c.loop-turn.invariant.works c.requires.held within has)
    (λ within d made. related_wider c.args.self.now c.loop-turn.self c.args.self.now.state.stack c.args.list c.args.whole c.in-Some.frame.asked c.loop-turn.invariant.works c.requires.held within d made) (c.give_related.ensures.full (c.in_err-turn-in-Given.was ∙ ap Err (fault_of _ _ (sym same ∙ full))))

pub loop-turn-preserved : goal.loop-turn-preserved
loop-turn-preserved c =
    let before = relating c.args.list c.loop-turn.self in
    let after = relating c.args.list c.give_related.new.self in
    record {
      works = works_behind c.args.self.now c.loop-turn.self c.give_related.new.self c.args.self.now.state.stack c.loop-turn.self.state.stack (answers_of c.loop-turn.frames.items) c.loop-turn.invariant.works c.loop-turn.invariant.stack c.give_related.ensures.works;
      stack = c.in_ok-turn-in-Given.ensures.moves c.args.self.now.state.stack c.loop-turn.invariant.stack;
      under_way = given_goes_on before after (AreBothHeld c.loop-turn.self c.loop-turn.self.state.stack) c.loop-turn.self.state.stack c.args.whole c.in-Given.edge c.loop-turn.frames.items c.in-Some.ensures.rest c.give_related.new.frames.items c.in-Some.frame c.loop-turn.turn c.in_ok-turn-in-Given.turn (relating_carries c.args.list c.loop-turn.self c.give_related.new.self c.loop-turn.self.state.stack c.give_related.ensures.works) (both_held_now c.args.self.now c.loop-turn.self c.args.self.now.state.stack c.loop-turn.self.state.stack (answers_of c.loop-turn.frames.items) c.args.whole c.loop-turn.invariant.works c.loop-turn.invariant.stack c.requires.held) (on_stack c.args.self.now.state.stack c.loop-turn.self.state.stack c.loop-turn.frames.items c.loop-turn.invariant.stack) c.in-Given.is c.in-Some.ensures.is c.loop-turn.invariant.under_way (c.in_ok-turn-in-Given.ensures.gives c.in-Some.ensures.rest c.in-Some.ensures.is);
    }

pub loop-turn-smaller : goal.loop-turn-smaller
loop-turn-smaller c =
    given_ends (relating c.args.list c.loop-turn.self) (relating c.args.list c.give_related.new.self) c.in-Given.edge c.loop-turn.frames.items c.in-Some.ensures.rest c.give_related.new.frames.items c.in-Some.frame c.loop-turn.turn c.in_ok-turn-in-Given.turn (relating_has_parts c.args.list c.give_related.new.self) c.give_related.ensures.works.keeps.levels c.in-Given.is c.in-Some.ensures.is (c.in_ok-turn-in-Given.ensures.gives c.in-Some.ensures.rest c.in-Some.ensures.is)
