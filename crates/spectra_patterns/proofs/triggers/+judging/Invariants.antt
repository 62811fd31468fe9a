use Rattle.std.proofs.Common.{◌≡◌, map, drop}
use Rattle.spectra_resolved.specs.Findings.{with_faults}
use Rattle.spectra_resolved.specs.Reports.{found_in}
use Rattle.spectra_resolved.specs.Chained.{regexes}
use Rattle.spectra_resolved.specs.Views.{regex_data}
use Rattle.spectra_judge.specs.KindViews.{known_data}
use Rattle.spectra_patterns.specs.TriggerParts.{each_atom_faults}
use Rattle.spectra_patterns.proofs.triggers.+judging.Given as goal

-- what is left is found beside what was found
abbrev pub invariant-report_each-loop-r : goal.invariant-report_each-loop-r
invariant-report_each-loop-r l =
    with_faults (found_in l.findings) (each_atom_faults (known_data l.known) (regexes (map regex_data (drop l.r-index l.rs)))) ≡ with_faults (found_in l.fn.findings) (each_atom_faults (known_data l.known) (regexes (map regex_data l.rs)))
