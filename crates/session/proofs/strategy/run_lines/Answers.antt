use Rattle.std.proofs.Common.{[]}
use Rattle.session.specs.Strategies.{rounds_of}
use Rattle.session.proofs.RunTalks.{run_talk}
use Rattle.session.proofs.Strategic.{begins, stands_somewhere}
use Rattle.session.proofs.strategy.run_lines.Goals as goal

pub talk-requires-clause-serves : goal.talk-requires-clause-serves
talk-requires-clause-serves g c =
    let some = c.requires.one_specification in
    record {
      spec = some.0;
      state = record { rounds = rounds_of c.args.play.now; play = [] };
      suits = some.1;
      stands = begins _ c.args.play.now some.0 some.2 c.requires.stands c.requires.fresh;
    }

pub returns-clause-talk : goal.returns-clause-talk
returns-clause-talk g c = λ s for_spec is_of.
    run_talk s (rounds_of c.args.play.now) _ _ _ _ _ _ _ c.talk.result
    (c.talk.ensures.talk s (record { rounds = rounds_of c.args.play.now; play = [] }) for_spec (begins _ c.args.play.now s is_of c.requires.stands c.requires.fresh)).talk

pub returns-clause-stands : goal.returns-clause-stands
returns-clause-stands g c =
    let some = c.requires.one_specification in
    let ended = c.talk.ensures.talk some.0 (record { rounds = rounds_of c.args.play.now; play = [] }) some.1 (begins _ c.args.play.now some.0 some.2 c.requires.stands c.requires.fresh) in
    stands_somewhere _ c.talk.new.play some.0 ended.state.rounds ended.state.play ended.stands
