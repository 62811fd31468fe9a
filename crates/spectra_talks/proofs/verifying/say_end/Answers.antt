use Rattle.std.proofs.Common.{ap}
use Rattle.strategy_tables.specs.Views.{table_data}
use Rattle.spectra_talks.specs.Verifying.{checked}
use Rattle.spectra_talks.proofs.Verified.{said_too}
use Rattle.spectra_talks.proofs.verifying.say_end.Goals as goal

pub returns-in-Sound : goal.returns-in-Sound
returns-in-Sound g c =
    let said = c.say_verified in
    said_too g.O.Sink.written g.O.Sink.faults (checked (table_data c.args.table.now) c.args.end) _ (ap (checked (table_data c.args.table.now)) c.in-Sound.is) c.args.output.now said.new.output said.result said.ensures

pub returns-in-Flaw : goal.returns-in-Flaw
returns-in-Flaw g c =
    let said = c.say_not_verified in
    said_too g.O.Sink.written g.O.Sink.faults (checked (table_data c.args.table.now) c.args.end) _ (ap (checked (table_data c.args.table.now)) c.in-Flaw.is) c.args.output.now said.new.output said.result said.ensures

pub returns-in-Limit : goal.returns-in-Limit
returns-in-Limit g c =
    let said = c.say_size_limit in
    said_too g.O.Sink.written g.O.Sink.faults (checked (table_data c.args.table.now) c.args.end) _ (ap (checked (table_data c.args.table.now)) c.in-Limit.is) c.args.output.now said.new.output said.result said.ensures
