use Rattle.std.proofs.Common.{◌≡◌, drop, map}
use Rattle.spectra_trees.specs.Views.{tree_data}
use Rattle.spectra_resolved.specs.Findings.{with_faults}
use Rattle.spectra_resolved.specs.Reports.{found_in}
use Rattle.spectra_declared.specs.Declarations.{imports_faults}
use Rattle.spectra_declared.proofs.limits.report_imports.Given as goal

-- what is left is the answer
abbrev pub invariant-loop-file : goal.invariant-loop-file
invariant-loop-file l =
    with_faults (found_in l.findings) (imports_faults l.last l.file (map tree_data (drop l.file l.trees))) ≡ with_faults (found_in l.fn.findings) (imports_faults l.last 0 (map tree_data l.trees))
