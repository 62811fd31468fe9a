use Rattle.std.proofs.Common.{map, rules}
use Rattle.spec_model.specs.Views.{variable_data}
use Rattle.spectra_talks.specs.Endings.{better_order}
use Rattle.spectra_talks.specs.Orders.{names_by}
use Rattle.spectra_talks.proofs.Exchanges.{is_said}
use Rattle.spectra_talks.proofs.saying.say_better_order.Goals as goal

pub returns-in-Ok : goal.returns-in-Ok
returns-in-Ok g c =
    let names = names_by (map variable_data c.args.vars.now) c.args.order.now in
    is_said g.O.Sink.written g.O.Sink.faults (better_order c.args.nodes names c.args.fewer) c.as_bytes.result.now c.say.result c.args.output.now c.say.new.output (search rules) c.say.ensures
