use Rattle.std.proofs.Common.{◌+◌, map, drop, flat_map, ap, ◌∙◌}
use Rattle.spectra_resolved.specs.TextViews.{pattern_line_data}
use Rattle.spectra_resolved.specs.Findings.{with_faults}
use Rattle.spectra_resolved.specs.Reports.{found_in}
use Rattle.spectra_judge.specs.KindViews.{known_data}
use Rattle.spectra_patterns.specs.Patterns.{line_faults}
use Rattle.spectra_patterns.proofs.Found.{line_left}
use Rattle.spectra_patterns.proofs.patterns.first_fault.Goals as goal

pub loop-line-preserved : goal.loop-line-preserved
loop-line-preserved c =
    let known = known_data c.args.known.now in
    let ls = c.args.lines.now in
    let k = c.loop-line.line-index in
    ap (λ f. with_faults f (flat_map (line_faults known) (map pattern_line_data (drop (k + 1) ls)))) c.report_line.ensures
    ∙ line_left known ls k c.line-item.result c.loop-line-test.true c.line-item.is (found_in c.loop-line.findings)
    ∙ c.loop-line.invariant
