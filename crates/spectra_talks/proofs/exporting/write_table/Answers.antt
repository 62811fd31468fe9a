use Rattle.std.proofs.Common.{◌∙◌, ap, Err}
use Rattle.spec_model.specs.Views.{spec_data}
use Rattle.strategy_tables.specs.declared.fault.TableFault.{TableFault}
use Rattle.strategy_tables.specs.Views.{table_data}
use Rattle.spectra_talks.specs.Verifying.{of_table}
use Rattle.spectra_talks.specs.Exporting.{HasLongText}
use Rattle.spectra_talks.proofs.Exported.{text_said, limit_said, nothing_said}
use Rattle.spectra_talks.proofs.exporting.write_table.Goals as goal

pub returns-in-Ok : goal.returns-in-Ok
returns-in-Ok g c = λ says sound left reads faults.
    let s = spec_data c.args.spec.now in
    text_said s says (HasLongText s says) _ _ _ _ (record { table = table_data c.args.table.now; is = c.in-Ok.ensures.exact; verified = ap (of_table s) c.in-Ok.ensures.reads_back ∙ sound }) (c.say_exported.ensures left reads faults)

pub returns-in-Err-Limit : goal.returns-in-Err-Limit
returns-in-Err-Limit g c = λ says sound left reads faults.
    let s = spec_data c.args.spec.now in
    let long = c.in-Err-Limit.ensures.limit (ap (λ (f : TableFault). Err f) c.in-Err-Limit.field-0-is) in
    limit_said s says (HasLongText s says) _ _ _ (record { table = table_data c.args.table.now; sound = sound; long = long }) (c.say_size_limit.ensures left reads faults)

pub returns-in-Err-Memory : goal.returns-in-Err-Memory
returns-in-Err-Memory g c = λ says sound left reads faults. let s = spec_data c.args.spec.now in nothing_said s says (HasLongText s says) left reads faults (g.O.Sink.written c.args.output.now) (g.O.Sink.faults c.args.output.now)
