use Rattle.std.proofs.Common.{◌≡◌, ◌∙◌, List, ℕ, refl, subst}
use Rattle.std.specs.Io.KnownBytes.{Appends}
use Rattle.sp_outside.specs.Written.{AppendsFront}
use Rattle.session.specs.Counters.{shifts_of, denials_of}
use Rattle.spectra_talks.specs.Endings.{line_of, unrealizable}
use Rattle.spectra_talks.specs.Sessions.{cut_at_once, counter_ending_after, CounterTalks}
use Rattle.spectra_talks.proofs.Exchanges.{session_held, counter_weaker}
use Rattle.spectra_talks.proofs.countering.exchange.Goals as goal

pub returns-in-Ok-clause-holds : goal.returns-in-Ok-clause-holds
returns-in-Ok-clause-holds g c =
    let line : c.as_bytes.result.now ≡ line_of (unrealizable (shifts_of c.args.play.now) (denials_of g.G.Regions.kept c.args.play.now)) = c.as_bytes.ensures.value ∙ c.requires.verdict in
    λ s for_spec is_of.
    session_held (unrealizable (shifts_of c.args.play.now) (denials_of g.G.Regions.kept c.args.play.now)) (CounterTalks s (shifts_of c.args.play.now) (denials_of g.G.Regions.kept c.args.play.now)) counter_ending_after _ _ _ _ _ _ _ _ _ _ _ _ _ _ _ _ (λ rose rose' from talk. counter_weaker s (shifts_of c.args.play.now) (denials_of g.G.Regions.kept c.args.play.now) _ _ _ _ _ rose rose' _ from talk)
    (subst (λ (l : List ℕ). Appends (g.O.Sink.written c.args.output.now) (g.O.Sink.written c.write_line.new.output) l) line c.in-Ok.ensures.whole)
    (c.counter_lines-end.ensures.talk s for_spec is_of) c.counter_lines-end.ensures.reads c.close_counter.ensures.closes c.write_line.ensures.cause.later c.counter_lines-end.ensures.later_out c.close_counter.ensures.later

pub returns-in-Err-clause-holds : goal.returns-in-Err-clause-holds
returns-in-Err-clause-holds g c =
    let line : c.as_bytes.result.now ≡ line_of (unrealizable (shifts_of c.args.play.now) (denials_of g.G.Regions.kept c.args.play.now)) = c.as_bytes.ensures.value ∙ c.requires.verdict in
    λ s for_spec is_of.
    cut_at_once (record { left = refl; reads = refl; faults = refl }) (subst (λ (l : List ℕ). AppendsFront (g.O.Sink.written c.args.output.now) (g.O.Sink.written c.write_line.new.output) l) line c.in-Err.ensures.part) c.in-Err.ensures.cause.failed
