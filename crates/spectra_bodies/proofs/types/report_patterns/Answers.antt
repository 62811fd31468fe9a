use Rattle.spectra_resolved.specs.Reports.{found_in}
use Rattle.spectra_resolved.specs.TextViews.{pattern_data, text_data}
use Rattle.spectra_bodies.specs.Faults.{own_faults}
use Rattle.spectra_bodies.proofs.Loops.{found_step}
use Rattle.spectra_bodies.proofs.types.report_patterns.Goals as goal

pub loop-pattern-preserved : goal.loop-pattern-preserved
loop-pattern-preserved c =
    found_step pattern_data (own_faults (text_data c.args.text.now)) c.args.patterns.now c.loop-pattern.pattern-index c.pattern-item.result (found_in c.loop-pattern.findings) _ _ c.loop-pattern-test.true c.pattern-item.is c.in_ok-report_own.ensures c.loop-pattern.invariant
