use Rattle.std.proofs.Common.{ℕ, List, drop, length, sym, ap, subst, ◌∙◌}
use Rattle.spec_model.specs.Games.{GameData}
use Rattle.spec_model.specs.Agreement.{Agrees}
use Rattle.session_lines.specs.Shown.{inputs_of, outputs_of}
use Rattle.session_lines.specs.Views.{line_of}
use Rattle.session.proofs.Fitting.{reads_over, over_reads, read_fits}
use Rattle.many_sessions.specs.Solo.{over}
use Rattle.many_sessions.specs.Seats.{AreSeatsOf}
use Rattle.many_sessions.proofs.Seating.{seats_same}
use Rattle.many_sessions.proofs.Moving.{was_over, turned_down, moved_on}
use Rattle.many_sessions.proofs.Serving.{inputs_counted, room_moved, room_seated, serves_with, serves_read}
use Rattle.many_sessions.proofs.turning.take_turn.Goals as goal

pub returns-then-is_over : goal.returns-then-is_over
returns-then-is_over g c = λ s st for_spec serves.
    let kept = g.G.Regions.kept in
    let is = c.if-is_over.ensures.over st.game st.layers st.sessions serves.seats in
    was_over kept s st c.args.number (drop c.args.from (line_of c.args.lines.now)) c.args.many.now c.args.play.now is.0 is.1
    (serves_with kept c.args.many.now c.args.play.now s st serves.run serves.before serves.memory serves.plays c.args.many.now serves.few serves.room c.args.number (over is.0)
    (seats_same st.game st.layers c.args.many.now.seats.items st.sessions c.args.number (over is.0) is.1 serves.seats))

pub read-requires-clause-room : goal.read-requires-clause-room
read-requires-clause-room g c =
    let some = c.requires.serves in
    let serves = some.3 in
    serves.room.input ∙ sym (ap length some.2.wanted ∙ inputs_counted some.0 some.1.game (subst (λ (g : GameData). Agrees some.0 g) (sym serves.plays.game) serves.plays.is_of))

pub returns-then-not-read : goal.returns-then-not-read
returns-then-not-read g c = λ s st for_spec serves.
    let kept = g.G.Regions.kept in
    let text = drop c.args.from (line_of c.args.lines.now) in
    let is = c.if-is_over.ensures.alive st.game st.layers st.sessions serves.seats in
    let there = serves_read kept c.args.many.now c.args.play.now s st serves c.read.new.many c.read.ensures.keeps in
    turned_down kept s st c.args.number text c.close.new.self c.args.play.now is.0 is.1 is.2 is.3
    (λ x reads. c.if-not-read.ensures.refused x (over_reads c.args.lines.now s.names (inputs_of s) (outputs_of s) text x for_spec reads))
    (serves_with kept c.read.new.many c.args.play.now s st there.run there.before there.memory there.plays c.close.new.self there.few (room_moved st.game c.read.new.many c.close.new.self there.room c.close.ensures.keeps) c.args.number (over is.0)
    (c.close.ensures.seats st.game st.layers st.sessions is.0 there.seats))

pub move_on-requires-clause-serves : goal.move_on-requires-clause-serves
move_on-requires-clause-serves g c =
    let some = c.requires.serves in
    let s = some.0 in
    let st = some.1 in
    let text = drop c.args.from (line_of c.args.lines.now) in
    let is = c.if-is_over.ensures.alive st.game st.layers st.sessions some.3.seats in (
      s,
      st,
      is.0,
      is.1,
      is.2,
      serves_read g.G.Regions.kept c.args.many.now c.args.play.now s st some.3 c.read.new.many c.read.ensures.keeps,
      is.3,
      read_fits s.names (inputs_of s) text c.read.new.many.input.items (reads_over c.args.lines.now s.names (inputs_of s) (outputs_of s) text c.read.new.many.input.items some.2 c.if-not-read.ensures.read),
    )

pub returns : goal.returns
returns g c = λ s st for_spec serves.
    let kept = g.G.Regions.kept in
    let text = drop c.args.from (line_of c.args.lines.now) in
    let x = c.read.new.many.input.items in
    let is = c.if-is_over.ensures.alive st.game st.layers st.sessions serves.seats in
    let reads = reads_over c.args.lines.now s.names (inputs_of s) (outputs_of s) text x for_spec c.if-not-read.ensures.read in
    moved_on kept s st c.args.number text c.move_on.new.many c.move_on.new.play is.0 is.1 is.2 is.3 x reads c.move_on.result
    (c.move_on.ensures s st is.0 is.1 is.2 (serves_read kept c.args.many.now c.args.play.now s st serves c.read.new.many c.read.ensures.keeps) is.3 (read_fits s.names (inputs_of s) text x reads))
