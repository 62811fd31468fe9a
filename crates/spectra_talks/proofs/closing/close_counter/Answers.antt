use Rattle.session.specs.declared.talking.End.TheVariants as ends
use Rattle.spectra_talks.specs.Sessions.{counter_ending_after}
use Rattle.spectra_talks.proofs.Exchanges.{closes_by}
use Rattle.spectra_talks.proofs.closing.close_counter.Goals as goal

pub returns-in-Broken-clause-closes : goal.returns-in-Broken-clause-closes
returns-in-Broken-clause-closes g c =
    let w = c.write_numbered-written in
    let line = c.from-line.ensures in
    closes_by counter_ending_after c.args.end (ends.Broken c.in-Broken.label) c.in-Broken.is _ _ _ w.result c.told.result (rw line at w.ensures.whole) (rw line at w.ensures.part) w.ensures.cause.failed c.told.ensures.whole c.told.ensures.part
