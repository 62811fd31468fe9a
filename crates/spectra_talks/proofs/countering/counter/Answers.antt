use Rattle.std.proofs.Common.{inl, inr, ◌∙◌}
use Rattle.spec_model.specs.Views.{spec_data}
use Rattle.spectra_talks.proofs.Exchanges.{nothing_done, countered_as, unrealizable_as}
use Rattle.spectra_talks.proofs.countering.counter.Goals as goal

pub held-requires-clause-verdict : goal.held-requires-clause-verdict
held-requires-clause-verdict g c = c.in-Ok.ensures.verdict ∙ unrealizable_as _ _ _ _ c.requires.shifts c.requires.denials

pub held-requires-clause-one_specification : goal.held-requires-clause-one_specification
held-requires-clause-one_specification g c = (spec_data c.args.spec.now, c.in-Ok.ensures.for_spec, c.requires.plays)

pub returns-in-Ok : goal.returns-in-Ok
returns-in-Ok g c = record {
  holds = inl (countered_as _ _ _ _ _ _ _ _ c.requires.shifts c.requires.denials
      (c.held.ensures (spec_data c.args.spec.now) c.in-Ok.ensures.for_spec c.requires.plays));
}

pub returns-in-Err : goal.returns-in-Err
returns-in-Err g c = record { holds = inr (nothing_done _) }
