use Rattle.std.proofs.Common.{sym, subst}
use Rattle.std.proofs.KnownBytes.{Appends-nil}
use Rattle.sp_outside.specs.Causes.{Rose}
use Rattle.session.specs.declared.talking.End.{End}
use Rattle.session.specs.declared.talking.End.TheVariants as ends
use Rattle.spectra_talks.specs.declared.status.Status.TheVariants.{Done, OutputFault}
use Rattle.spectra_talks.specs.Sessions.{Closes, whole, ending_after}
use Rattle.spectra_talks.proofs.Exchanges.{closes_by}
use Rattle.spectra_talks.proofs.closing.close.Goals as goal

pub returns-in-Finished-clause-closes : goal.returns-in-Finished-clause-closes
returns-in-Finished-clause-closes g c =
    subst (λ (e : End). Closes (ending_after e) (g.O.Sink.written c.args.output.now) (g.O.Sink.written c.args.output.now) (Rose (g.O.Sink.faults c.args.output.now) (g.O.Sink.faults c.args.output.now)) Done) (sym c.in-Finished.is) (whole (Appends-nil (g.O.Sink.written c.args.output.now)))

pub returns-in-Broken-clause-closes : goal.returns-in-Broken-clause-closes
returns-in-Broken-clause-closes g c =
    let w = c.write_numbered-written in
    let line = c.from-line.ensures in
    closes_by ending_after c.args.end (ends.Broken c.in-Broken.label) c.in-Broken.is _ _ _ w.result c.told.result (rw line at w.ensures.whole) (rw line at w.ensures.part) w.ensures.cause.failed c.told.ensures.whole c.told.ensures.part

pub returns-in-BadLine-clause-closes : goal.returns-in-BadLine-clause-closes
returns-in-BadLine-clause-closes g c =
    let w = c.write_numbered-written-in-BadLine in
    let t = c.told-in-BadLine in
    closes_by ending_after c.args.end (ends.BadLine c.in-BadLine.n) c.in-BadLine.is _ _ _ w.result t.result w.ensures.whole w.ensures.part w.ensures.cause.failed t.ensures.whole t.ensures.part

pub returns-in-StateLimit-clause-closes : goal.returns-in-StateLimit-clause-closes
returns-in-StateLimit-clause-closes g c =
    let w = c.write_line in
    let t = c.told-in-StateLimit in
    closes_by ending_after c.args.end ends.StateLimit c.in-StateLimit.is _ _ _ w.result t.result w.ensures.whole w.ensures.part w.ensures.cause.failed t.ensures.whole t.ensures.part

pub returns-in-ReadFault-clause-closes : goal.returns-in-ReadFault-clause-closes
returns-in-ReadFault-clause-closes g c =
    let w = c.write_line-in-ReadFault in
    let t = c.told-in-ReadFault in
    closes_by ending_after c.args.end ends.ReadFault c.in-ReadFault.is _ _ _ w.result t.result w.ensures.whole w.ensures.part w.ensures.cause.failed t.ensures.whole t.ensures.part

pub returns-in-WriteFault-clause-closes : goal.returns-in-WriteFault-clause-closes
returns-in-WriteFault-clause-closes g c =
    subst (λ (e : End). Closes (ending_after e) (g.O.Sink.written c.args.output.now) (g.O.Sink.written c.args.output.now) (Rose (g.O.Sink.faults c.args.output.now) (g.O.Sink.faults c.args.output.now)) OutputFault) (sym c.in-WriteFault.is) (whole (Appends-nil (g.O.Sink.written c.args.output.now)))
