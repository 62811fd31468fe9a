use Rattle.std.proofs.Common.{ap}
use Rattle.strategy_tables.specs.declared.tables.Table.{Table}
use Rattle.strategy_tables.specs.Views.{table_data}
use Rattle.spectra_talks.specs.Verifying.{verified}
use Rattle.spectra_talks.proofs.Verified.{said_too}
use Rattle.spectra_talks.proofs.verifying.say_verified.Goals as goal

pub returns-in-System : goal.returns-in-System
returns-in-System g c =
    let said = c.say_verified_system in
    said_too g.O.Sink.written g.O.Sink.faults (verified (table_data c.args.table.now)) _ (ap (λ (t : Table). verified (table_data t)) c.in-System.is) c.args.output.now said.new.output said.result said.ensures

pub returns-in-Environment : goal.returns-in-Environment
returns-in-Environment g c =
    let said = c.say_verified_environment in
    said_too g.O.Sink.written g.O.Sink.faults (verified (table_data c.args.table.now)) _ (ap (λ (t : Table). verified (table_data t)) c.in-Environment.is) c.args.output.now said.new.output said.result said.ensures
