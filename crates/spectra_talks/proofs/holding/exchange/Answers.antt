use Rattle.std.proofs.Common.{◌≡◌, ◌∙◌, List, ℕ, refl, subst}
use Rattle.std.specs.Io.KnownBytes.{Appends}
use Rattle.sp_outside.specs.Written.{AppendsFront}
use Rattle.session.specs.Strategies.{rounds_of}
use Rattle.spectra_talks.specs.Endings.{line_of, realizable}
use Rattle.spectra_talks.specs.Sessions.{cut_at_once, ending_after, RunTalks}
use Rattle.spectra_talks.proofs.Exchanges.{session_held, run_weaker}
use Rattle.spectra_talks.proofs.holding.exchange.Goals as goal

pub returns-in-Ok-clause-holds : goal.returns-in-Ok-clause-holds
returns-in-Ok-clause-holds g c =
    let line : c.as_bytes.result.now ≡ line_of (realizable (rounds_of c.args.play.now)) = c.as_bytes.ensures.value ∙ c.requires.verdict in
    λ s for_spec is_of.
    session_held (realizable (rounds_of c.args.play.now)) (RunTalks s (rounds_of c.args.play.now)) ending_after _ _ _ _ _ _ _ _ _ _ _ _ _ _ _ _ (λ rose rose' from talk. run_weaker s (rounds_of c.args.play.now) _ _ _ _ _ rose rose' _ from talk)
    (subst (λ (l : List ℕ). Appends (g.O.Sink.written c.args.output.now) (g.O.Sink.written c.write_line.new.output) l) line c.in-Ok.ensures.whole)
    (c.run_lines-end.ensures.talk s for_spec is_of) c.run_lines-end.ensures.reads c.close.ensures.closes c.write_line.ensures.cause.later c.run_lines-end.ensures.later_out c.close.ensures.later

pub returns-in-Err-clause-holds : goal.returns-in-Err-clause-holds
returns-in-Err-clause-holds g c =
    let line : c.as_bytes.result.now ≡ line_of (realizable (rounds_of c.args.play.now)) = c.as_bytes.ensures.value ∙ c.requires.verdict in
    λ s for_spec is_of.
    cut_at_once (record { left = refl; reads = refl; faults = refl }) (subst (λ (l : List ℕ). AppendsFront (g.O.Sink.written c.args.output.now) (g.O.Sink.written c.write_line.new.output) l) line c.in-Err.ensures.part) c.in-Err.ensures.cause.failed
