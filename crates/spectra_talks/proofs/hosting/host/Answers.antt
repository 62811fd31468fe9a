use Rattle.std.proofs.Common.{ℕ, ap, inl, inr, sym, subst, ◌∙◌}
use Rattle.spec_model.specs.Views.{spec_data}
use Rattle.spec_model.specs.Games.{GameData}
use Rattle.strategy_parts.specs.Counts.{HasFewGoals}
use Rattle.hidden_game.proofs.FewGoals.{goals_few, asms_few}
use Rattle.many_sessions.specs.Seats.{IsNewFor}
use Rattle.spectra_talks.specs.Endings.{line_of, realizable}
use Rattle.spectra_talks.proofs.Exchanges.{nothing_done, hosted_as}
use Rattle.spectra_talks.proofs.hosting.host.Goals as goal

pub hosted-requires-clause-verdict : goal.hosted-requires-clause-verdict
hosted-requires-clause-verdict g c = c.in-Ok.ensures.verdict ∙ ap (λ (k : ℕ). line_of (realizable k)) c.requires.rounds

pub hosted-requires-clause-made : goal.hosted-requires-clause-made
hosted-requires-clause-made g c = subst (λ (h : GameData). IsNewFor h c.in-Ok.room.many) (sym c.requires.game) c.in-Ok.ensures.made

pub hosted-requires-clause-few : goal.hosted-requires-clause-few
hosted-requires-clause-few g c =
    let s = spec_data c.args.spec.now in
    subst (λ (h : GameData). HasFewGoals h) (sym c.requires.game) (record { goals = goals_few s c.requires.typed; asms = asms_few s c.requires.typed })

pub hosted-requires-clause-one_specification : goal.hosted-requires-clause-one_specification
hosted-requires-clause-one_specification g c = (spec_data c.args.spec.now, c.in-Ok.ensures.for_spec, c.requires.agrees)

pub returns-in-Ok : goal.returns-in-Ok
returns-in-Ok g c =
    let s = spec_data c.args.spec.now in
    let held = c.hosted.ensures s c.in-Ok.ensures.for_spec c.requires.agrees in
    record { holds = inl (hosted_as s _ _ _ _ _ _ _ c.requires.game c.requires.rounds held) }

pub returns-in-Err : goal.returns-in-Err
returns-in-Err g c = record { holds = inr (nothing_done _) }
