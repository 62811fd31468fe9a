use Rattle.std.proofs.Common.{◌+◌, drop, flat_map, ap, ◌∙◌}
use Rattle.spectra_resolved.specs.Views.{resolved_data}
use Rattle.spectra_resolved.specs.Findings.{with_faults}
use Rattle.spectra_resolved.specs.Reports.{found_in}
use Rattle.spectra_judge.specs.KindViews.{known_data}
use Rattle.spectra_judge.specs.Judged.{faults_of}
use Rattle.spectra_lines.specs.Views.{trees_data}
use Rattle.spectra_lines.proofs.Loops.{found_more}
use Rattle.spectra_lines.proofs.Bracketed.{trees_left}
use Rattle.spectra_lines.proofs.judging.first_fault.Goals as goal

pub loop-t-preserved : goal.loop-t-preserved
loop-t-preserved c =
    let faults = faults_of (known_data c.args.known.now) c.args.stand in
    let ts = c.args.trees.now in
    let k = c.loop-t.t-index in
    let t = c.t-item.result in
    ap (λ f. with_faults f (flat_map faults (trees_data (drop (k + 1) ts)))) c.report_faults.ensures
    ∙ found_more faults (resolved_data t.now) _ _ (found_in c.loop-t.findings) (trees_left ts k t c.loop-t-test.true c.t-item.is)
    ∙ c.loop-t.invariant
