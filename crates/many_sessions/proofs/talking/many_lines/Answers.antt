use Rattle.many_sessions.specs.Terms.{unbegun}
use Rattle.session.specs.Strategies.{rounds_of}
use Rattle.controller.specs.Objects.{game_of}
use Rattle.many_sessions.proofs.ManyTalks.{many_talk, unbroken}
use Rattle.many_sessions.proofs.Serving.{serves_first}
use Rattle.many_sessions.proofs.talking.many_lines.Goals as goal

pub talk-requires-clause-serves : goal.talk-requires-clause-serves
talk-requires-clause-serves g c =
    let kept = g.G.Regions.kept in
    let some = c.requires.one_specification in
    let there = c.requires.stands in
    record {
      spec = some.0;
      state = unbegun (game_of kept c.args.play.now) there.1 (rounds_of c.args.play.now);
      suits = some.1;
      stands = serves_first kept c.args.many.now c.args.play.now some.0 there.0 there.1 there.2 there.3 there.4 some.2 c.requires.few c.requires.made there.5;
    }

pub of-requires : goal.of-requires
of-requires g c =
    let kept = g.G.Regions.kept in
    let some = c.requires.one_specification in
    let there = c.requires.stands in
    let st = unbegun (game_of kept c.args.play.now) there.1 (rounds_of c.args.play.now) in
    unbroken some.0 st _ _ _ _ _ _ _ c.talk.result
    (c.talk.ensures.talk some.0 st some.1 (serves_first kept c.args.many.now c.args.play.now some.0 there.0 there.1 there.2 there.3 there.4 some.2 c.requires.few c.requires.made there.5)).talk

pub returns-clause-talk : goal.returns-clause-talk
returns-clause-talk g c = λ s for_spec is_of z l h b m stands.
    let kept = g.G.Regions.kept in
    let game = game_of kept c.args.play.now in
    let k = rounds_of c.args.play.now in
    many_talk s game l k _ _ _ _ _ _ _ c.talk.result c.of.result c.of.ensures
    (c.talk.ensures.talk s (unbegun game l k) for_spec (serves_first kept c.args.many.now c.args.play.now s z l h b m is_of c.requires.few c.requires.made stands)).talk

pub returns-clause-stands : goal.returns-clause-stands
returns-clause-stands g c =
    let kept = g.G.Regions.kept in
    let some = c.requires.one_specification in
    let there = c.requires.stands in
    let st = unbegun (game_of kept c.args.play.now) there.1 (rounds_of c.args.play.now) in
    let ended = c.talk.ensures.talk some.0 st some.1 (serves_first kept c.args.many.now c.args.play.now some.0 there.0 there.1 there.2 there.3 there.4 some.2 c.requires.few c.requires.made there.5) in
    let serves = ended.stands in
    (serves.plays.z, ended.state.layers, serves.run, serves.before, serves.memory, serves.plays.stands)
