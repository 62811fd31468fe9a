use Rattle.std.proofs.Common.{map, ◌∙◌}
use Rattle.spectra_resolved.specs.Findings.{with_faults}
use Rattle.spectra_resolved.specs.Reports.{found_in}
use Rattle.spectra_resolved.specs.Texts.{ResolvedPattern}
use Rattle.spectra_resolved.specs.TextViews.{type_data, pattern_data}
use Rattle.spectra_bounds.specs.TypeViews.{constants_data}
use Rattle.spectra_bodies.specs.Unmeant.{each_unmeant}
use Rattle.spectra_bodies.proofs.Loops.{found_step}
use Rattle.spectra_bodies.proofs.unmeant.report_own.Goals as goal

pub loop-pattern-preserved : goal.loop-pattern-preserved
loop-pattern-preserved c =
    found_step pattern_data (λ (p : ResolvedPattern). each_unmeant (constants_data c.args.constants.now) p.own) c.args.patterns.now c.loop-pattern.pattern-index c.pattern-item.result (found_in c.loop-pattern.findings) _ _ c.loop-pattern-test.true c.pattern-item.is (c.report_each.ensures ∙ (λ i. with_faults (found_in c.loop-pattern.findings) (each_unmeant (constants_data c.args.constants.now) (map type_data (c.deref.ensures.value i))))) c.loop-pattern.invariant
