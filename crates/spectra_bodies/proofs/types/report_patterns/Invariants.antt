use Rattle.std.proofs.Common.{◌≡◌, drop, map, flat_map}
use Rattle.spectra_resolved.specs.Findings.{with_faults}
use Rattle.spectra_resolved.specs.Reports.{found_in}
use Rattle.spectra_resolved.specs.TextViews.{pattern_data, text_data}
use Rattle.spectra_bodies.specs.Faults.{own_faults}
use Rattle.spectra_bodies.proofs.types.report_patterns.Given as goal

-- what is left to find gives the answer
abbrev pub invariant-loop-pattern : goal.invariant-loop-pattern
invariant-loop-pattern l =
    with_faults (found_in l.findings) (flat_map (own_faults (text_data l.text)) (map pattern_data (drop l.pattern-index l.patterns)))
    ≡ with_faults (found_in l.fn.findings) (flat_map (own_faults (text_data l.text)) (map pattern_data l.patterns))
