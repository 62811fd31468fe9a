use Rattle.std.proofs.Common.{inr}
use Rattle.spec_model.specs.Views.{spec_data}
use Rattle.strategy_tables.specs.Views.{table_data}
use Rattle.spectra_talks.specs.Endings.{verified_environment}
use Rattle.spectra_talks.specs.Exporting.{HasLongText, IsLargeForEnvironment}
use Rattle.spectra_talks.proofs.Exported.{exports_too, limit_said, nothing_said, environment_verified}
use Rattle.spectra_talks.proofs.Many.{large_for_environment}
use Rattle.spectra_talks.proofs.exporting.write_environment.Goals as goal

pub returns-in-Ok-clause-exports : goal.returns-in-Ok-clause-exports
returns-in-Ok-clause-exports g c =
    let s = spec_data c.args.spec.now in
    let says = verified_environment c.args.n c.args.m in
    let made = c.in-Ok.ensures.table in
    let sound = environment_verified s c.args.n c.args.m (table_data c.in-Ok.table) made.0 made.1 made.2.numbers.0 made.2.numbers.1 made.2.listed made.2.sound in
    λ left reads faults. exports_too s says (HasLongText s says) _ _ _ (IsLargeForEnvironment s c.args.n c.args.m) (λ long. inr (inr long)) (c.write_table.ensures says sound left reads faults)

pub returns-in-Err-Limit-clause-exports : goal.returns-in-Err-Limit-clause-exports
returns-in-Err-Limit-clause-exports g c = λ left reads faults.
    let s = spec_data c.args.spec.now in
    limit_said s (verified_environment c.args.n c.args.m) (IsLargeForEnvironment s c.args.n c.args.m) _ _ _ (large_for_environment g.G.Regions.kept s c.args.n c.args.m c.args.play.now c.requires.play (c.in-Err-Limit.ensures.limit c.in-Err-Limit.field-0-is)) (c.say_size_limit.ensures left reads faults)

pub returns-in-Err-Memory-clause-exports : goal.returns-in-Err-Memory-clause-exports
returns-in-Err-Memory-clause-exports g c = λ left reads faults. let s = spec_data c.args.spec.now in nothing_said s (verified_environment c.args.n c.args.m) (IsLargeForEnvironment s c.args.n c.args.m) left reads faults (g.O.Sink.written c.args.output.now) (g.O.Sink.faults c.args.output.now)
