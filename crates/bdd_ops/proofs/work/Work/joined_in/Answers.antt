use Rattle.std.proofs.Common.{◌≡◌, ◌<◌, length, Err, subst, sym, ◌∙◌, ap, rules}
use Rattle.bdd_store.proofs.Whole.{fault_of}
use Rattle.bdd_ops.specs.Questions.{AreBothHeld, joining}
use Rattle.bdd_ops.specs.Frames.{answers_of}
use Rattle.bdd_ops.proofs.StayLemmas.{works_none, works_behind}
use Rattle.bdd_ops.proofs.StackLemmas.{stack_begins, stack_asked}
use Rattle.bdd_ops.proofs.QuestionLemmas.{begins, asked_live, whole_given, given_answers, given_held, given_goes_on, given_ends, on_stack, spent_giving, asked_goes_on, asked_ends}
use Rattle.bdd_ops.proofs.RelatedLemmas.{AreWithin, both_live, both_held_now}
use Rattle.bdd_ops.proofs.JoiningLemmas.{joining_has_parts, joining_parts, joining_closed, joining_carries, joined_before, joined_result, joined_wider}
use Rattle.bdd_ops.proofs.work.Work.joined_in.Goals as goal

pub loop-turn-init : goal.loop-turn-init
loop-turn-init c = record {
  works = works_none c.args.self.now c.args.self.now.state.stack;
  stack = stack_begins c.args.self.now.state.stack c.args.frames.now.items c.requires.none_waits;
  under_way = begins (joining c.args.all c.args.self.now) c.args.whole c.args.frames.now.items (both_live c.args.self.now c.args.self.now.state.stack c.args.whole c.requires.held) c.requires.none_waits;
}

pub ask_joined-requires : goal.ask_joined-requires
ask_joined-requires c = asked_live (joining c.args.all c.loop-turn.self) c.args.whole c.in-Ask.asked c.loop-turn.frames.items c.loop-turn.turn c.in-Ask.is c.loop-turn.invariant.under_way

pub loop-turn-preserved-in-Ask : goal.loop-turn-preserved-in-Ask
loop-turn-preserved-in-Ask c =
    let op = joining c.args.all c.loop-turn.self in
    record {
      works = c.loop-turn.invariant.works;
      stack = stack_asked op c.in-Ask.asked c.args.self.now.state.stack c.loop-turn.self.state.stack c.loop-turn.frames.items c.ask_joined.new.frames.items c.in_ok-turn-in-Ask.turn c.loop-turn.invariant.stack c.in_ok-turn-in-Ask.ensures.asks;
      under_way = asked_goes_on op c.args.whole c.in-Ask.asked c.loop-turn.frames.items c.ask_joined.new.frames.items c.loop-turn.turn c.in_ok-turn-in-Ask.turn (joining_has_parts c.args.all c.loop-turn.self) c.in-Ask.is c.loop-turn.invariant.under_way c.in_ok-turn-in-Ask.ensures.asks;
    }

pub loop-turn-smaller-in-Ask : goal.loop-turn-smaller-in-Ask
loop-turn-smaller-in-Ask c = asked_ends (joining c.args.all c.loop-turn.self) c.in-Ask.asked c.loop-turn.frames.items c.ask_joined.new.frames.items c.loop-turn.turn c.in_ok-turn-in-Ask.turn (joining_has_parts c.args.all c.loop-turn.self) c.in-Ask.is c.in_ok-turn-in-Ask.ensures.asks

pub returns-in_err-turn-in-Ask-clause-over : goal.returns-in_err-turn-in-Ask-clause-over
returns-in_err-turn-in-Ask-clause-over c = (answers_of c.loop-turn.frames.items, c.loop-turn.invariant.stack)

pub returns-in_default-clause-given : goal.returns-in_default-clause-given
returns-in_default-clause-given c =
    joined_before c.args.all c.args.self.now c.loop-turn.self c.args.self.now.state.stack c.args.whole c.in-Given.edge.0 c.loop-turn.invariant.works c.requires.held
    (whole_given (joining c.args.all c.loop-turn.self) c.args.whole c.in-Given.edge c.loop-turn.frames.items c.loop-turn.turn c.in_default.ensures c.in-Given.is c.loop-turn.invariant.under_way)

pub returns-in_default-clause-over : goal.returns-in_default-clause-over
returns-in_default-clause-over c = (answers_of c.loop-turn.frames.items, c.loop-turn.invariant.stack)

pub give_joined-requires-clause-answered : goal.give_joined-requires-clause-answered
give_joined-requires-clause-answered c = given_answers (joining c.args.all c.loop-turn.self) c.args.whole c.in-Given.edge c.loop-turn.frames.items c.in-Some.ensures.rest c.in-Some.frame c.loop-turn.turn c.in-Given.is c.in-Some.ensures.is c.loop-turn.invariant.under_way

pub give_joined-requires-clause-held : goal.give_joined-requires-clause-held
give_joined-requires-clause-held c = given_held (joining c.args.all c.loop-turn.self) (AreBothHeld c.loop-turn.self c.loop-turn.self.state.stack) c.args.whole c.in-Given.edge c.loop-turn.frames.items c.in-Some.ensures.rest c.in-Some.frame c.loop-turn.turn (joining_closed c.args.all c.loop-turn.self c.loop-turn.self.state.stack) (both_held_now c.args.self.now c.loop-turn.self c.args.self.now.state.stack c.loop-turn.self.state.stack (answers_of c.loop-turn.frames.items) c.args.whole c.loop-turn.invariant.works c.loop-turn.invariant.stack c.requires.held) c.in-Given.is c.in-Some.ensures.is c.loop-turn.invariant.under_way

pub returns-in_err-turn-in-Given-clause-works : goal.returns-in_err-turn-in-Given-clause-works
returns-in_err-turn-in-Given-clause-works c = works_behind c.args.self.now c.loop-turn.self c.give_joined.new.self c.args.self.now.state.stack c.loop-turn.self.state.stack (answers_of c.loop-turn.frames.items) c.loop-turn.invariant.works c.loop-turn.invariant.stack c.give_joined.ensures.works

pub returns-in_err-turn-in-Given-clause-over : goal.returns-in_err-turn-in-Given-clause-over
returns-in_err-turn-in-Given-clause-over c = (answers_of c.loop-turn.frames.items, c.in_err-turn-in-Given.ensures.refused ∙ c.loop-turn.invariant.stack)

pub returns-in_err-turn-in-Given-clause-full : goal.returns-in_err-turn-in-Given-clause-full
returns-in_err-turn-in-Given-clause-full c full =
    let same : c.from_residual-in_err-turn-in-Given.result ≡ Err c.in_err-turn-in-Given.field-0.0 = search rules in
    spent_giving (joining c.args.all c.loop-turn.self) (AreWithin c.loop-turn.self) c.args.whole c.in-Given.edge c.loop-turn.frames.items c.in-Some.ensures.rest c.in-Some.frame c.loop-turn.turn c.loop-turn.self c.give_joined.new.self c.args.self.now.state.stack c.loop-turn.self.state.stack _ _ (joining_parts c.args.all c.loop-turn.self) c.in-Given.is c.in-Some.ensures.is c.loop-turn.invariant.under_way c.loop-turn.invariant.stack c.give_joined.ensures.works
    (λ q n within has. joined_result c.args.all c.args.self.now c.loop-turn.self c.args.self.now.state.stack c.args.whole q n c.loop-turn.invariant.works c.requires.held within has)
    (λ within d made. joined_wider c.args.all c.args.self.now c.loop-turn.self c.args.self.now.state.stack c.args.whole c.in-Some.frame.asked c.loop-turn.invariant.works c.requires.held within d made) (c.give_joined.ensures.full (c.in_err-turn-in-Given.was ∙ ap Err (fault_of _ _ (sym same ∙ full))))

pub loop-turn-preserved : goal.loop-turn-preserved
loop-turn-preserved c =
    let before = joining c.args.all c.loop-turn.self in
    let after = joining c.args.all c.give_joined.new.self in
    record {
      works = works_behind c.args.self.now c.loop-turn.self c.give_joined.new.self c.args.self.now.state.stack c.loop-turn.self.state.stack (answers_of c.loop-turn.frames.items) c.loop-turn.invariant.works c.loop-turn.invariant.stack c.give_joined.ensures.works;
      stack = c.in_ok-turn-in-Given.ensures.moves c.args.self.now.state.stack c.loop-turn.invariant.stack;
      under_way = given_goes_on before after (AreBothHeld c.loop-turn.self c.loop-turn.self.state.stack) c.loop-turn.self.state.stack c.args.whole c.in-Given.edge c.loop-turn.frames.items c.in-Some.ensures.rest c.give_joined.new.frames.items c.in-Some.frame c.loop-turn.turn c.in_ok-turn-in-Given.turn (joining_carries c.args.all c.loop-turn.self c.give_joined.new.self c.loop-turn.self.state.stack c.give_joined.ensures.works) (both_held_now c.args.self.now c.loop-turn.self c.args.self.now.state.stack c.loop-turn.self.state.stack (answers_of c.loop-turn.frames.items) c.args.whole c.loop-turn.invariant.works c.loop-turn.invariant.stack c.requires.held) (on_stack c.args.self.now.state.stack c.loop-turn.self.state.stack c.loop-turn.frames.items c.loop-turn.invariant.stack) c.in-Given.is c.in-Some.ensures.is c.loop-turn.invariant.under_way (c.in_ok-turn-in-Given.ensures.gives c.in-Some.ensures.rest c.in-Some.ensures.is);
    }

pub loop-turn-smaller : goal.loop-turn-smaller
loop-turn-smaller c =
    given_ends (joining c.args.all c.loop-turn.self) (joining c.args.all c.give_joined.new.self) c.in-Given.edge c.loop-turn.frames.items c.in-Some.ensures.rest c.give_joined.new.frames.items c.in-Some.frame c.loop-turn.turn c.in_ok-turn-in-Given.turn (joining_has_parts c.args.all c.give_joined.new.self) c.give_joined.ensures.works.keeps.levels c.in-Given.is c.in-Some.ensures.is (c.in_ok-turn-in-Given.ensures.gives c.in-Some.ensures.rest c.in-Some.ensures.is)
