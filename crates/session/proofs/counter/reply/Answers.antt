use Rattle.std.proofs.Common.{ap, sym, ◌∙◌, ◌++◌, subst, is_none, ℕ, List}
use Rattle.std.specs.Io.KnownBytes.{Appends}
use Rattle.sp_outside.specs.Written.{AppendsFront}
use Rattle.std.proofs.KnownBytes.{Appends-nil}
use Rattle.counterstrategy.specs.Objects.{note_data}
use Rattle.session_lines.specs.Views.{read_of, shown_of}
use Rattle.session.specs.CounterTalks.{note_line}
use Rattle.session.proofs.Fitting.{over_after}
use Rattle.session.proofs.CounterTalks.{given_fits}
use Rattle.session.proofs.Countering.{reply_fits_game, room_for_input, counter_stands, names_given, gives_legal, gives_next, answer_by, shown_as}
use Rattle.session.proofs.counter.reply.Goals as goal

pub broken_with-requires-clause-stands : goal.broken_with-requires-clause-stands
broken_with-requires-clause-stands g c =
    let some = c.requires.serves in
    let st = some.state in
    counter_stands _ c.args.play.now some.spec st.shifts st.denials st.play st.notes some.stands.place

pub broken_with-requires-clause-given : goal.broken_with-requires-clause-given
broken_with-requires-clause-given g c = c.requires.serves.stands.has_given

pub broken_with-requires-clause-output : goal.broken_with-requires-clause-output
broken_with-requires-clause-output g c =
    let some = c.requires.serves in
    reply_fits_game some.spec _ some.stands.place.is_of.agrees (read_of c.args.lines.now) _ some.suits.wanted c.requires.read

pub complete-note-requires-clause-stands : goal.complete-note-requires-clause-stands
complete-note-requires-clause-stands g c =
    let some = c.requires.serves in
    let st = some.state in
    counter_stands _ c.args.play.now some.spec st.shifts st.denials st.play st.notes some.stands.place

pub complete-note-requires-clause-given : goal.complete-note-requires-clause-given
complete-note-requires-clause-given g c = c.requires.serves.stands.has_given

pub complete-note-requires-clause-output : goal.complete-note-requires-clause-output
complete-note-requires-clause-output g c =
    let some = c.requires.serves in
    reply_fits_game some.spec _ some.stands.place.is_of.agrees (read_of c.args.lines.now) _ some.suits.wanted c.requires.read

pub complete-note-requires-clause-legal : goal.complete-note-requires-clause-legal
complete-note-requires-clause-legal g c = λ e h notes b k stands. sym (c.broken_with.ensures.none e h notes b k stands) ∙ ap is_none c.in_default.is

pub complete-note-requires-clause-room : goal.complete-note-requires-clause-room
complete-note-requires-clause-room g c =
    let some = c.requires.serves in
    room_for_input some.spec _ some.stands.place.is_of.agrees c.args.lines.now some.suits.shown

pub write_answer-requires : goal.write_answer-requires
write_answer-requires g c =
    let some = c.requires.serves in
    let s = some.spec in
    let st = some.state in
    let p = some.stands in
    let y = read_of c.args.lines.now in
    let x' = shown_of c.complete-note.new.lines in
    let next = c.complete-note.ensures.answered p.place.layers st.play st.notes p.place.before p.place.memory p.place.stands in
    let on = gives_next _ c.args.play.now c.complete-note.new.play s c.complete-note.ensures.play st.shifts st.denials st.play st.notes st.input p y c.complete-note.result next.0 x' next.1 in
    given_fits s _ x' _ (c.complete-note.ensures.keeps.shown ∙ some.suits.shown) (gives_legal _ c.complete-note.new.play s st.shifts st.denials _ _ x' on)

pub returns-in-Some-clause-replies : goal.returns-in-Some-clause-replies
returns-in-Some-clause-replies g c = λ s st suits p.
    let y = read_of c.args.lines.now in
    let told = c.broken_with.ensures.first p.place.layers st.play st.notes p.place.before p.place.memory p.place.stands in (
      names_given _ c.args.play.now s st.shifts st.denials st.play st.notes st.input p y c.broken_with.result told ∙ c.in-Some.is,
      Appends-nil _,
      p,
    )

pub returns-in-Ok-clause-replies : goal.returns-in-Ok-clause-replies
returns-in-Ok-clause-replies g c = λ s st suits p.
    let y = read_of c.args.lines.now in
    let x' = shown_of c.complete-note.new.lines in
    let w = note_data c.complete-note.result in
    let told = c.broken_with.ensures.first p.place.layers st.play st.notes p.place.before p.place.memory p.place.stands in
    let unbroken =
    names_given _ c.args.play.now s st.shifts st.denials st.play st.notes st.input p y c.broken_with.result told ∙ c.in_default.is in
    let next = c.complete-note.ensures.answered p.place.layers st.play st.notes p.place.before p.place.memory p.place.stands in
    let on = gives_next _ c.args.play.now c.complete-note.new.play s c.complete-note.ensures.play st.shifts st.denials st.play st.notes st.input p y c.complete-note.result next.0 x' next.1 in
    let over = over_after c.args.lines.now c.complete-note.new.lines _ _ _ suits c.complete-note.ensures.keeps in (
      answer_by _ c.args.play.now c.complete-note.new.play s st y w x' unbroken on,
      subst (λ (l : List ℕ). Appends (g.O.Sink.written c.args.output.now) (g.O.Sink.written c.write_answer.new.output) l) (ap (λ (l : List ℕ). note_line w ++ l) (shown_as c.complete-note.new.lines s x' over)) c.in-Ok.ensures.whole,
    )

pub returns-in-Err-clause-replies : goal.returns-in-Err-clause-replies
returns-in-Err-clause-replies g c = λ s st suits p.
    let y = read_of c.args.lines.now in
    let x' = shown_of c.complete-note.new.lines in
    let w = note_data c.complete-note.result in
    let told = c.broken_with.ensures.first p.place.layers st.play st.notes p.place.before p.place.memory p.place.stands in
    let unbroken =
    names_given _ c.args.play.now s st.shifts st.denials st.play st.notes st.input p y c.broken_with.result told ∙ c.in_default.is in
    let next = c.complete-note.ensures.answered p.place.layers st.play st.notes p.place.before p.place.memory p.place.stands in
    let on = gives_next _ c.args.play.now c.complete-note.new.play s c.complete-note.ensures.play st.shifts st.denials st.play st.notes st.input p y c.complete-note.result next.0 x' next.1 in
    let over = over_after c.args.lines.now c.complete-note.new.lines _ _ _ suits c.complete-note.ensures.keeps in (
      answer_by _ c.args.play.now c.complete-note.new.play s st y w x' unbroken on,
      subst (λ (l : List ℕ). AppendsFront (g.O.Sink.written c.args.output.now) (g.O.Sink.written c.write_answer.new.output) l) (ap (λ (l : List ℕ). note_line w ++ l) (shown_as c.complete-note.new.lines s x' over)) c.in-Err.ensures.part,
      c.in-Err.ensures.cause.failed,
    )
