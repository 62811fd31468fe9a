use Rattle.std.proofs.Common.{sym, subst}
use Rattle.sp_outside.specs.Causes.{Rose}
use Rattle.session.specs.declared.auditing.AuditEnd.{AuditEnd}
use Rattle.session.specs.declared.auditing.AuditEnd.TheVariants as audits
use Rattle.spectra_talks.specs.Sessions.{Closes, audit_ending_after}
use Rattle.spectra_talks.proofs.Exchanges.{closes_by}
use Rattle.spectra_talks.proofs.closing.close_audit.Goals as goal

pub returns-in-Whole : goal.returns-in-Whole
returns-in-Whole g c =
    let w = c.write_numbered-written in
    closes_by audit_ending_after c.args.end (audits.Whole c.in-Whole.n) c.in-Whole.is _ _ _ w.result c.told.result w.ensures.whole w.ensures.part w.ensures.cause.failed c.told.ensures.whole c.told.ensures.part

pub returns-in-Broken : goal.returns-in-Broken
returns-in-Broken g c =
    let w = c.write_twice_numbered-written in
    let t = c.told-in-Broken in
    let line = c.from-line.ensures in
    closes_by audit_ending_after c.args.end (audits.Broken c.in-Broken.finding) c.in-Broken.is _ _ _ w.result t.result (rw line at w.ensures.whole) (rw line at w.ensures.part) w.ensures.cause.failed t.ensures.whole t.ensures.part

pub returns-in-BadLine : goal.returns-in-BadLine
returns-in-BadLine g c =
    subst (λ (e : AuditEnd). Closes (audit_ending_after e) (g.O.Sink.written c.args.output.now) (g.O.Sink.written c.close.new.output) (Rose (g.O.Sink.faults c.args.output.now) (g.O.Sink.faults c.close.new.output)) c.close.result) (sym c.in-BadLine.is) c.close.ensures.closes

pub returns-in-StateLimit : goal.returns-in-StateLimit
returns-in-StateLimit g c =
    let l = c.close-in-StateLimit in
    subst (λ (e : AuditEnd). Closes (audit_ending_after e) (g.O.Sink.written c.args.output.now) (g.O.Sink.written l.new.output) (Rose (g.O.Sink.faults c.args.output.now) (g.O.Sink.faults l.new.output)) l.result) (sym c.in-StateLimit.is) l.ensures.closes

pub returns-in-ReadFault : goal.returns-in-ReadFault
returns-in-ReadFault g c =
    let l = c.close-in-ReadFault in
    subst (λ (e : AuditEnd). Closes (audit_ending_after e) (g.O.Sink.written c.args.output.now) (g.O.Sink.written l.new.output) (Rose (g.O.Sink.faults c.args.output.now) (g.O.Sink.faults l.new.output)) l.result) (sym c.in-ReadFault.is) l.ensures.closes
