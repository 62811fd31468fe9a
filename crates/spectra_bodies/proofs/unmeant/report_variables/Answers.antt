use Rattle.spectra_resolved.specs.Reports.{found_in}
use Rattle.spectra_resolved.specs.Texts.{ResolvedVariable}
use Rattle.spectra_resolved.specs.TextViews.{variable_data}
use Rattle.spectra_bounds.specs.TypeViews.{constants_data}
use Rattle.spectra_bodies.specs.Unmeant.{unmeant}
use Rattle.spectra_bodies.proofs.Loops.{found_step}
use Rattle.spectra_bodies.proofs.unmeant.report_variables.Goals as goal

pub loop-variable-preserved : goal.loop-variable-preserved
loop-variable-preserved c =
    found_step variable_data (λ (v : ResolvedVariable). unmeant (constants_data c.args.constants.now) v.domain) c.args.variables.now c.loop-variable.variable-index c.variable-item.result (found_in c.loop-variable.findings) _ _ c.loop-variable-test.true c.variable-item.is c.report_unmeant.ensures c.loop-variable.invariant
