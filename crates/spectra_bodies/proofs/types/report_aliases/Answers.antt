use Rattle.spectra_resolved.specs.Reports.{found_in}
use Rattle.spectra_resolved.specs.Texts.{ResolvedAlias}
use Rattle.spectra_resolved.specs.TextViews.{alias_data}
use Rattle.spectra_bodies.specs.Faults.{type_faults}
use Rattle.spectra_bodies.specs.BasisViews.{basis_data}
use Rattle.spectra_bodies.proofs.Loops.{found_step}
use Rattle.spectra_bodies.proofs.types.report_aliases.Goals as goal

pub loop-alias-preserved : goal.loop-alias-preserved
loop-alias-preserved c =
    found_step alias_data (λ (a : ResolvedAlias). type_faults (basis_data c.args.basis.now) a.body) c.args.types.now c.loop-alias.alias-index c.alias-item.result (found_in c.loop-alias.findings) _ _ c.loop-alias-test.true c.alias-item.is c.in_ok-report_type.ensures c.loop-alias.invariant
