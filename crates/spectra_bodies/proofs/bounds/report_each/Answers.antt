use Rattle.spectra_resolved.specs.Reports.{found_in}
use Rattle.spectra_resolved.specs.TextViews.{type_data}
use Rattle.spectra_bodies.specs.Faults.{type_faults}
use Rattle.spectra_bodies.specs.BasisViews.{basis_data}
use Rattle.spectra_bodies.proofs.Loops.{found_step}
use Rattle.spectra_bodies.proofs.bounds.report_each.Goals as goal

pub loop-t-preserved : goal.loop-t-preserved
loop-t-preserved c =
    found_step type_data (type_faults (basis_data c.args.basis.now)) c.args.ts.now c.loop-t.t-index c.t-item.result (found_in c.loop-t.findings) _ _ c.loop-t-test.true c.t-item.is c.in_ok-report_type.ensures c.loop-t.invariant
