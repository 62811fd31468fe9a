use Rattle.std.proofs.Common.{ℕ, List, [], ◌∷◌, ◌++◌, refl, sym, ap, subst, ◌∙◌}
use Rattle.std.specs.Fmt.{decimal}
use Rattle.std.specs.Bool.{OnTrue, OnFalse}
use Rattle.std.specs.Io.KnownBytes.{Appends}
use Rattle.sp_outside.specs.Written.{AppendsFront}
use Rattle.spec_model.specs.Values.{Assignment}
use Rattle.spec_model.specs.Syntax.{VariableData}
use Rattle.session_lines.specs.Shown.{outputs_of}
use Rattle.session_lines.specs.Views.{names_of, shown_variables}
use Rattle.many_sessions.specs.Terms.{with_session}
use Rattle.many_sessions.specs.Turns.{reply_of, CanBeTold}
use Rattle.many_sessions.proofs.answering.serve.Goals as goal

pub tell-requires : goal.tell-requires
tell-requires g c =
    let some = c.requires.serves in
    let turn = c.take_turn-outcome.ensures some.0 some.1 some.2 some.3 in
    subst (λ (vs : List VariableData). CanBeTold vs c.take_turn-outcome.result c.deref.result.now) (sym some.2.shown)
    (subst (λ (y : Assignment). CanBeTold (outputs_of some.0) c.take_turn-outcome.result y) (sym c.deref.ensures.value) turn.can_tell)

pub returns-clause-answers : goal.returns-clause-answers
returns-clause-answers g c = λ s st for_spec serves.
    let turn = c.take_turn-outcome.ensures s st for_spec serves in
    let outcome = c.take_turn-outcome.result in
    let y = c.take_turn-outcome.new.many.output.items in
    let told =
    ap (λ (names : List (List ℕ)). reply_of names (shown_variables c.args.lines.now) outcome c.deref.result.now) for_spec.names
    ∙ (ap (λ (vs : List VariableData). reply_of s.names vs outcome c.deref.result.now) for_spec.shown ∙ ap (λ (y : Assignment). reply_of s.names (outputs_of s) outcome y) c.deref.ensures.value) in
    let line = ap (λ (reply : List ℕ). decimal c.args.number ++ (32 ∷ (reply ++ 10 ∷ []))) told in (
      record {
        legal = refl;
        text = decimal c.args.number ++ (32 ∷ (reply_of s.names (outputs_of s) outcome y ++ 10 ∷ []));
        next = with_session st c.args.number turn.session;
        answers = record {
          reply = reply_of s.names (outputs_of s) outcome y;
          session = turn.session;
          replies = turn.replies;
          kept = turn.kept_on;
          shown = refl;
          goes_on = refl;
        };
        stands = turn.serves;
      },
      subst (λ (l : List ℕ). OnTrue c.tell.result (Appends (g.O.Sink.written c.args.output.now) (g.O.Sink.written c.tell.new.output) l)) line c.tell.ensures.whole,
      subst (λ (l : List ℕ). OnFalse c.tell.result (AppendsFront (g.O.Sink.written c.args.output.now) (g.O.Sink.written c.tell.new.output) l)) line c.tell.ensures.part,
    )
