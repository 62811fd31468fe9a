use Rattle.spectra_resolved.specs.Reports.{found_in}
use Rattle.spectra_resolved.specs.Texts.{ResolvedVariable}
use Rattle.spectra_resolved.specs.TextViews.{variable_data}
use Rattle.spectra_bodies.specs.Faults.{type_faults}
use Rattle.spectra_bodies.specs.BasisViews.{basis_data}
use Rattle.spectra_bodies.proofs.Loops.{found_step}
use Rattle.spectra_bodies.proofs.types.report_variables.Goals as goal

pub loop-variable-preserved : goal.loop-variable-preserved
loop-variable-preserved c =
    found_step variable_data (λ (v : ResolvedVariable). type_faults (basis_data c.args.basis.now) v.domain) c.args.variables.now c.loop-variable.variable-index c.variable-item.result (found_in c.loop-variable.findings) _ _ c.loop-variable-test.true c.variable-item.is c.in_ok-report_type.ensures c.loop-variable.invariant
