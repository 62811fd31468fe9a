use Rattle.std.proofs.Common.{◌∙◌}
use Rattle.session.specs.Counters.{shifts_of, denials_of}
use Rattle.session.proofs.Countering.{waits, counter_stands}
use Rattle.session.proofs.CounterTalks.{counter_start, counter_talk, turned}
use Rattle.session.proofs.counter.counter_lines.Goals as goal

pub talk-requires-clause-unread : goal.talk-requires-clause-unread
talk-requires-clause-unread g c =
    record {
      pending = c.turn_round.ensures.reader.pending ∙ c.requires.unread.pending;
      not_ended = c.turn_round.ensures.reader.ended ∙ c.requires.unread.not_ended;
    }

pub talk-requires-clause-serves : goal.talk-requires-clause-serves
talk-requires-clause-serves g c =
    let some = c.requires.one_specification in
    record {
      spec = some.0;
      state = counter_start (shifts_of c.args.play.now) (denials_of g.G.Regions.kept c.args.play.now);
      suits = turned c.args.lines.now c.turn_round.new.self some.0 some.1 c.turn_round.ensures.turns;
      stands = waits _ c.args.play.now some.0 some.2 c.requires.stands c.requires.fresh.0 c.requires.fresh.1;
    }

pub returns-clause-talk : goal.returns-clause-talk
returns-clause-talk g c = λ s for_spec is_of.
    let n = shifts_of c.args.play.now in
    let m = denials_of g.G.Regions.kept c.args.play.now in
    counter_talk s n m _ _ _ _ _ _ _ c.talk.result
    (c.talk.ensures.talk s (counter_start n m) (turned c.args.lines.now c.turn_round.new.self s for_spec c.turn_round.ensures.turns)
    (waits _ c.args.play.now s is_of c.requires.stands c.requires.fresh.0 c.requires.fresh.1)).talk

pub returns-clause-stands : goal.returns-clause-stands
returns-clause-stands g c =
    let some = c.requires.one_specification in
    let n = shifts_of c.args.play.now in
    let m = denials_of g.G.Regions.kept c.args.play.now in
    let ended = c.talk.ensures.talk some.0 (counter_start n m) (turned c.args.lines.now c.turn_round.new.self some.0 some.1 c.turn_round.ensures.turns)
    (waits _ c.args.play.now some.0 some.2 c.requires.stands c.requires.fresh.0 c.requires.fresh.1) in
    let st = ended.state in
    counter_stands _ c.talk.new.play some.0 st.shifts st.denials st.play st.notes ended.stands.place
