use Rattle.std.proofs.Common.{◌≡◌, true, drop, map}
use Rattle.spectra_trees.specs.Views.{name_data}
use Rattle.spectra_resolved.specs.Findings.{with_faults}
use Rattle.spectra_resolved.specs.Reports.{found_in}
use Rattle.spectra_declared.specs.Declarations.{import_faults}
use Rattle.spectra_declared.proofs.limits.report_each_import.Given as goal

-- what is left is the answer
abbrev pub invariant-loop-name : goal.invariant-loop-name
invariant-loop-name l =
    with_faults (found_in l.findings) (import_faults l.file true (map name_data (drop l.name-index l.imports))) ≡ with_faults (found_in l.fn.findings) (import_faults l.file true (map name_data l.imports))
