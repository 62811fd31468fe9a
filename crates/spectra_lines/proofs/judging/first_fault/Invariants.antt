use Rattle.std.proofs.Common.{◌≡◌, drop, None}
use Rattle.spectra_resolved.specs.Findings.{with_faults}
use Rattle.spectra_resolved.specs.Reports.{found_in}
use Rattle.spectra_judge.specs.KindViews.{known_data}
use Rattle.spectra_lines.specs.Lines.{trees_faults}
use Rattle.spectra_lines.specs.Views.{trees_data}
use Rattle.spectra_lines.proofs.judging.first_fault.Given as goal

-- what is left is found beside what was found
abbrev pub invariant-loop-t : goal.invariant-loop-t
invariant-loop-t l =
    with_faults (found_in l.findings) (trees_faults (known_data l.known) l.stand (trees_data (drop l.t-index l.trees))) ≡ with_faults None (trees_faults (known_data l.known) l.stand (trees_data l.trees))
