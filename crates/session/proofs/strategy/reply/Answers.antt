use Rattle.std.proofs.Common.{ap, sym, ◌∙◌, subst, is_none, ℕ, List}
use Rattle.std.specs.Io.KnownBytes.{Appends}
use Rattle.sp_outside.specs.Written.{AppendsFront}
use Rattle.std.proofs.KnownBytes.{Appends-nil}
use Rattle.session_lines.specs.Views.{read_of, shown_of}
use Rattle.session.proofs.Fitting.{over_after}
use Rattle.session.proofs.RunTalks.{input_fits, output_fits, legal_from}
use Rattle.session.proofs.Strategic.{fits_game, room_for_game, stands_somewhere, names_broken, reply_is_legal, answer_of, shown_for}
use Rattle.session.proofs.strategy.reply.Goals as goal

pub broken_by-requires-clause-stands : goal.broken_by-requires-clause-stands
broken_by-requires-clause-stands g c =
    let some = c.requires.serves in
    stands_somewhere _ c.args.play.now some.spec some.state.rounds some.state.play some.stands

pub broken_by-requires-clause-input : goal.broken_by-requires-clause-input
broken_by-requires-clause-input g c =
    let some = c.requires.serves in
    fits_game some.spec _ some.stands.is_of (read_of c.args.lines.now) _ some.suits.wanted c.requires.read

pub choose-requires-clause-stands : goal.choose-requires-clause-stands
choose-requires-clause-stands g c =
    let some = c.requires.serves in
    stands_somewhere _ c.args.play.now some.spec some.state.rounds some.state.play some.stands

pub choose-requires-clause-input : goal.choose-requires-clause-input
choose-requires-clause-input g c =
    let some = c.requires.serves in
    fits_game some.spec _ some.stands.is_of (read_of c.args.lines.now) _ some.suits.wanted c.requires.read

pub choose-requires-clause-legal : goal.choose-requires-clause-legal
choose-requires-clause-legal g c = λ z l h b m stands. sym (c.broken_by.ensures.none z l h b m stands) ∙ ap is_none c.in_default.is

pub choose-requires-clause-room : goal.choose-requires-clause-room
choose-requires-clause-room g c =
    let some = c.requires.serves in
    room_for_game some.spec _ some.stands.is_of c.args.lines.now some.suits.shown

pub write_shown-requires : goal.write_shown-requires
write_shown-requires g c =
    let some = c.requires.serves in
    let s = some.spec in
    let h = some.state.play in
    let p = some.stands in
    let x = read_of c.args.lines.now in
    let unbroken = names_broken _ c.args.play.now s some.state.rounds h p x c.broken_by.result (c.broken_by.ensures.first p.z p.layers h p.before p.memory p.stands) ∙ c.in_default.is in
    let legal = legal_from s h x (input_fits s x _ some.suits.wanted c.requires.read) unbroken in
    let next = c.choose.ensures.chosen p.z p.layers h p.before p.memory p.stands in
    output_fits s h x (shown_of c.choose.new.lines) _ (c.choose.ensures.keeps.shown ∙ some.suits.shown)
    (reply_is_legal _ c.args.play.now s some.state.rounds h p x legal (shown_of c.choose.new.lines) next.0 next.1.chosen)

pub returns-in-Some-clause-replies : goal.returns-in-Some-clause-replies
returns-in-Some-clause-replies g c = λ s st suits p.
    let x = read_of c.args.lines.now in (
      names_broken _ c.args.play.now s st.rounds st.play p x c.broken_by.result (c.broken_by.ensures.first p.z p.layers st.play p.before p.memory p.stands) ∙ c.in-Some.is,
      Appends-nil _,
      p,
    )

pub returns-in-Ok-clause-replies : goal.returns-in-Ok-clause-replies
returns-in-Ok-clause-replies g c = λ s st suits p.
    let x = read_of c.args.lines.now in
    let y = shown_of c.choose.new.lines in
    let unbroken = names_broken _ c.args.play.now s st.rounds st.play p x c.broken_by.result (c.broken_by.ensures.first p.z p.layers st.play p.before p.memory p.stands) ∙ c.in_default.is in
    let fits = input_fits s x _ suits.wanted c.requires.read in
    let next = c.choose.ensures.chosen p.z p.layers st.play p.before p.memory p.stands in
    let over = over_after c.args.lines.now c.choose.new.lines _ _ _ suits c.choose.ensures.keeps in (
      answer_of _ c.args.play.now c.choose.new.play s st p c.choose.ensures.play x fits unbroken y next.0 next.1,
      subst (λ (l : List ℕ). Appends (g.O.Sink.written c.args.output.now) (g.O.Sink.written c.write_shown.new.output) l) (shown_for c.choose.new.lines s y over) c.in-Ok.ensures.whole,
    )

pub returns-in-Err-clause-replies : goal.returns-in-Err-clause-replies
returns-in-Err-clause-replies g c = λ s st suits p.
    let x = read_of c.args.lines.now in
    let y = shown_of c.choose.new.lines in
    let unbroken = names_broken _ c.args.play.now s st.rounds st.play p x c.broken_by.result (c.broken_by.ensures.first p.z p.layers st.play p.before p.memory p.stands) ∙ c.in_default.is in
    let fits = input_fits s x _ suits.wanted c.requires.read in
    let next = c.choose.ensures.chosen p.z p.layers st.play p.before p.memory p.stands in
    let over = over_after c.args.lines.now c.choose.new.lines _ _ _ suits c.choose.ensures.keeps in (
      answer_of _ c.args.play.now c.choose.new.play s st p c.choose.ensures.play x fits unbroken y next.0 next.1,
      subst (λ (l : List ℕ). AppendsFront (g.O.Sink.written c.args.output.now) (g.O.Sink.written c.write_shown.new.output) l) (shown_for c.choose.new.lines s y over) c.in-Err.ensures.part,
      c.in-Err.ensures.cause.failed,
    )
