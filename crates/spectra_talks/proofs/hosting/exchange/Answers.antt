use Rattle.std.proofs.Common.{◌≡◌, ◌∙◌, List, ℕ, refl, sym, subst}
use Rattle.std.specs.Io.KnownBytes.{Appends}
use Rattle.sp_outside.specs.Written.{AppendsFront}
use Rattle.controller.specs.Objects.{game_of}
use Rattle.session.specs.Strategies.{rounds_of}
use Rattle.spectra_talks.specs.Endings.{line_of, realizable}
use Rattle.spectra_talks.specs.Sessions.{cut_at_once, ending_after}
use Rattle.spectra_talks.specs.Hosting.{ManyTalks}
use Rattle.spectra_talks.proofs.Exchanges.{session_held, hosted_weaker}
use Rattle.spectra_talks.proofs.hosting.exchange.Goals as goal

pub returns-in-Ok-clause-holds : goal.returns-in-Ok-clause-holds
returns-in-Ok-clause-holds g c =
    let kept = g.G.Regions.kept in
    let play = c.args.play.now in
    let k = rounds_of play in
    let there = c.requires.plays.1 in
    let line : c.as_bytes.result.now ≡ line_of (realizable k) = c.as_bytes.ensures.value ∙ c.requires.verdict in
    λ s for_spec is_of.
    session_held (realizable k) (ManyTalks s (game_of kept play) k) ending_after _ _ _ _ _ _ _ _ _ _ _ _ _ _ _ _ (λ rose rose' from talk. hosted_weaker s (game_of kept play) k _ _ _ _ _ rose rose' _ from talk)
    (subst (λ (l : List ℕ). Appends (g.O.Sink.written c.args.output.now) (g.O.Sink.written c.write_line.new.output) l) line c.in-Ok.ensures.whole)
    (record {
      winning_states = there.0;
      layers = there.1;
      winning = there.5.sound.won;
      told = c.many_lines-end.result;
      same = sym c.end_told.ensures;
      talk = c.many_lines-end.ensures.talk s for_spec is_of there.0 there.1 there.2 there.3 there.4 there.5;
    })
    c.many_lines-end.ensures.reads c.close.ensures.closes c.write_line.ensures.cause.later c.many_lines-end.ensures.later_out c.close.ensures.later

pub returns-in-Err-clause-holds : goal.returns-in-Err-clause-holds
returns-in-Err-clause-holds g c =
    let line : c.as_bytes.result.now ≡ line_of (realizable (rounds_of c.args.play.now)) = c.as_bytes.ensures.value ∙ c.requires.verdict in
    λ s for_spec is_of.
    cut_at_once (record { left = refl; reads = refl; faults = refl }) (subst (λ (l : List ℕ). AppendsFront (g.O.Sink.written c.args.output.now) (g.O.Sink.written c.write_line.new.output) l) line c.in-Err.ensures.part) c.in-Err.ensures.cause.failed
