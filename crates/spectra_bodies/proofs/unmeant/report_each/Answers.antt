use Rattle.spectra_resolved.specs.Reports.{found_in}
use Rattle.spectra_resolved.specs.TextViews.{type_data}
use Rattle.spectra_bounds.specs.TypeViews.{constants_data}
use Rattle.spectra_bodies.specs.Unmeant.{unmeant}
use Rattle.spectra_bodies.proofs.Loops.{found_step}
use Rattle.spectra_bodies.proofs.unmeant.report_each.Goals as goal

pub loop-t-preserved : goal.loop-t-preserved
loop-t-preserved c =
    found_step type_data (unmeant (constants_data c.args.constants.now)) c.args.ts.now c.loop-t.t-index c.t-item.result (found_in c.loop-t.findings) _ _ c.loop-t-test.true c.t-item.is c.report_unmeant.ensures c.loop-t.invariant
