use Rattle.std.proofs.Common.{ℕ, ap, inr, ◌∙◌}
use Rattle.spec_model.specs.Views.{spec_data}
use Rattle.spectra_talks.specs.Endings.{line_of, realizable}
use Rattle.spectra_talks.proofs.Exchanges.{nothing_done}
use Rattle.spectra_talks.proofs.holding.hold.Goals as goal

pub held-requires-clause-verdict : goal.held-requires-clause-verdict
held-requires-clause-verdict g c = c.in-Ok.ensures.verdict ∙ ap (λ (k : ℕ). line_of (realizable k)) c.requires.rounds

pub held-requires-clause-one_specification : goal.held-requires-clause-one_specification
held-requires-clause-one_specification g c = (spec_data c.args.spec.now, c.in-Ok.ensures.for_spec, c.requires.plays)

pub returns-in-Err : goal.returns-in-Err
returns-in-Err g c = record { holds = inr (nothing_done _) }
