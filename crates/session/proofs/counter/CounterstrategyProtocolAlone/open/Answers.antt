use Rattle.std.proofs.Common.{ℕ, List, refl, ◌∙◌, subst}
use Rattle.std.specs.Io.KnownBytes.{Appends}
use Rattle.std.specs.Result.{OnOk, OnErr}
use Rattle.sp_outside.specs.Written.{AppendsFront}
use Rattle.session_lines.specs.Views.{shown_of}
use Rattle.session.specs.CounterTalks.{shown_input}
use Rattle.session.proofs.Fitting.{over_after}
use Rattle.session.proofs.CounterTalks.{given_fits}
use Rattle.session.proofs.Countering.{room_for_input, counter_stands, tells_of, gives_in, gives_legal, shown_as}
use Rattle.session.proofs.counter.CounterstrategyProtocolAlone.open.Goals as goal

pub begin-requires-clause-stands : goal.begin-requires-clause-stands
begin-requires-clause-stands g c =
    let some = c.requires in
    let st = some.state in
    counter_stands _ c.args.self.now some.spec st.shifts st.denials st.play st.notes some.stands.place

pub begin-requires-clause-fresh : goal.begin-requires-clause-fresh
begin-requires-clause-fresh g c = c.requires.stands.fresh

pub begin-requires-clause-room : goal.begin-requires-clause-room
begin-requires-clause-room g c =
    let some = c.requires in
    room_for_input some.spec _ some.stands.place.is_of.agrees c.args.lines.now some.suits.shown

pub write_shown-requires : goal.write_shown-requires
write_shown-requires g c =
    let some = c.requires in
    let s = some.spec in
    let st = some.state in
    let p = some.stands.place in
    let gives = c.begin.ensures.given p.layers st.play st.notes p.before p.memory p.stands in
    let on = gives_in _ c.args.self.now c.begin.new.play s c.begin.ensures.play st.shifts st.denials st.play st.notes p p.layers st.play st.notes p.before p.memory (shown_of c.begin.new.lines) gives in
    given_fits s st.play (shown_of c.begin.new.lines) _ (c.begin.ensures.keeps.shown ∙ some.suits.shown) (gives_legal _ c.begin.new.play s st.shifts st.denials st.play st.notes (shown_of c.begin.new.lines) on)

pub returns-clause-opens : goal.returns-clause-opens
returns-clause-opens g c = λ s st suits waits.
    let p = waits.place in
    let x = shown_of c.begin.new.lines in
    let gives = c.begin.ensures.given p.layers st.play st.notes p.before p.memory p.stands in
    let on = gives_in _ c.args.self.now c.begin.new.play s c.begin.ensures.play st.shifts st.denials st.play st.notes p p.layers st.play st.notes p.before p.memory x gives in
    let line = shown_as c.begin.new.lines s x (over_after c.args.lines.now c.begin.new.lines _ _ _ suits c.begin.ensures.keeps) in
    record {
      text = shown_input s x;
      next = record { shifts = st.shifts; denials = st.denials; play = st.play; notes = st.notes; input = x };
      opens = record {
        input = x;
        legal = gives_legal _ c.begin.new.play s st.shifts st.denials st.play st.notes x on;
        shown = refl;
        goes_on = refl;
        beaten = (tells_of _ c.args.self.now s st.shifts st.denials st.play st.notes p).beaten;
      };
      stands = on;
      whole = subst (λ (l : List ℕ). OnOk c.write_shown.result (Appends (g.O.Sink.written c.args.output.now) (g.O.Sink.written c.write_shown.new.output) l)) line c.write_shown.ensures.whole;
      part = subst (λ (l : List ℕ). OnErr c.write_shown.result (AppendsFront (g.O.Sink.written c.args.output.now) (g.O.Sink.written c.write_shown.new.output) l)) line c.write_shown.ensures.part;
    }
