use Rattle.std.proofs.Common.{ap, sym, Some}
use Rattle.spec_model.specs.Views.{spec_data}
use Rattle.strategy_tables.specs.Views.{table_data}
use Rattle.spectra_talks.specs.Verifying.{checked, of_table}
use Rattle.spectra_talks.proofs.Verified.{said_too}
use Rattle.spectra_talks.proofs.verifying.verify_table.Goals as goal

pub returns-in-Ok : goal.returns-in-Ok
returns-in-Ok g c =
    let said = c.say_end in
    said_too g.O.Sink.written g.O.Sink.faults (of_table (spec_data c.args.spec.now) (Some (table_data c.args.table.now))) _ (ap (checked (table_data c.args.table.now)) (sym c.in-Ok.ensures.exact)) c.args.output.now said.new.output said.result said.ensures
