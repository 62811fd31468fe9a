use Rattle.std.proofs.Common.{ap}
use Rattle.spec_model.specs.Views.{spec_data}
use Rattle.spectra_talks.specs.Verifying.{of_table, verify_ending}
use Rattle.spectra_talks.proofs.Verified.{said_too}
use Rattle.spectra_talks.proofs.verifying.verify_bytes.Goals as goal

pub returns-in-Ok : goal.returns-in-Ok
returns-in-Ok g c =
    let said = c.verify_table in
    said_too g.O.Sink.written g.O.Sink.faults (verify_ending (spec_data c.args.spec.now) c.args.bytes.now) _ (ap (of_table (spec_data c.args.spec.now)) c.in-Ok.ensures.exact) c.args.output.now said.new.output said.result said.ensures
