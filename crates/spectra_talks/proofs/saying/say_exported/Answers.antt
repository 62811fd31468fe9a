use Rattle.std.proofs.Common.{string_bytes, rules}
use Rattle.spectra_talks.specs.Endings.{exported}
use Rattle.spectra_talks.proofs.Exchanges.{is_said}
use Rattle.spectra_talks.proofs.saying.say_exported.Goals as goal

pub returns-in-Ok : goal.returns-in-Ok
returns-in-Ok g c = is_said g.O.Sink.written g.O.Sink.faults (exported (string_bytes c.args.text)) c.as_bytes.result.now c.say.result c.args.output.now c.say.new.output (search rules) c.say.ensures
