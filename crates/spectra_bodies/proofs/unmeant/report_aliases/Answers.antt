use Rattle.spectra_resolved.specs.Reports.{found_in}
use Rattle.spectra_resolved.specs.Texts.{ResolvedAlias}
use Rattle.spectra_resolved.specs.TextViews.{alias_data}
use Rattle.spectra_bounds.specs.TypeViews.{constants_data}
use Rattle.spectra_bodies.specs.Unmeant.{unmeant}
use Rattle.spectra_bodies.proofs.Loops.{found_step}
use Rattle.spectra_bodies.proofs.unmeant.report_aliases.Goals as goal

pub loop-alias-preserved : goal.loop-alias-preserved
loop-alias-preserved c =
    found_step alias_data (λ (a : ResolvedAlias). unmeant (constants_data c.args.constants.now) a.body) c.args.types.now c.loop-alias.alias-index c.alias-item.result (found_in c.loop-alias.findings) _ _ c.loop-alias-test.true c.alias-item.is c.report_unmeant.ensures c.loop-alias.invariant
