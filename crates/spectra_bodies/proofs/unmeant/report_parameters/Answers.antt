use Rattle.std.proofs.Common.{map, ◌∙◌}
use Rattle.spectra_resolved.specs.Findings.{with_faults}
use Rattle.spectra_resolved.specs.Reports.{found_in}
use Rattle.spectra_resolved.specs.Texts.{ResolvedDefinition}
use Rattle.spectra_resolved.specs.TextViews.{type_data, definition_data}
use Rattle.spectra_bounds.specs.TypeViews.{constants_data}
use Rattle.spectra_bodies.specs.Unmeant.{each_unmeant}
use Rattle.spectra_bodies.proofs.Loops.{found_step}
use Rattle.spectra_bodies.proofs.unmeant.report_parameters.Goals as goal

pub loop-definition-preserved : goal.loop-definition-preserved
loop-definition-preserved c =
    found_step definition_data (λ (d : ResolvedDefinition). each_unmeant (constants_data c.args.constants.now) d.params) c.args.definitions.now c.loop-definition.definition-index c.definition-item.result (found_in c.loop-definition.findings) _ _ c.loop-definition-test.true c.definition-item.is (c.report_each.ensures ∙ (λ i. with_faults (found_in c.loop-definition.findings) (each_unmeant (constants_data c.args.constants.now) (map type_data (c.deref.ensures.value i))))) c.loop-definition.invariant
