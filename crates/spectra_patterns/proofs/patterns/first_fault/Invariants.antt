use Rattle.std.proofs.Common.{◌≡◌, map, drop, flat_map, None}
use Rattle.spectra_resolved.specs.Findings.{with_faults}
use Rattle.spectra_resolved.specs.Reports.{found_in}
use Rattle.spectra_resolved.specs.TextViews.{pattern_line_data}
use Rattle.spectra_judge.specs.KindViews.{known_data}
use Rattle.spectra_patterns.specs.Patterns.{line_faults}
use Rattle.spectra_patterns.proofs.patterns.first_fault.Given as goal

-- what is left is found beside what was found
abbrev pub invariant-loop-line : goal.invariant-loop-line
invariant-loop-line l =
    with_faults (found_in l.findings) (flat_map (line_faults (known_data l.known)) (map pattern_line_data (drop l.line-index l.lines))) ≡ with_faults None (flat_map (line_faults (known_data l.known)) (map pattern_line_data l.lines))
