use Rattle.std.proofs.Common.{rules}
use Rattle.spectra_talks.specs.Endings.{no_better_order}
use Rattle.spectra_talks.proofs.Exchanges.{is_said}
use Rattle.spectra_talks.proofs.saying.say_no_better_order.Goals as goal

pub returns-in-Ok : goal.returns-in-Ok
returns-in-Ok g c = is_said g.O.Sink.written g.O.Sink.faults (no_better_order c.args.nodes) c.as_bytes.result.now c.say.result c.args.output.now c.say.new.output (search rules) c.say.ensures
