use Rattle.std.proofs.Common.{◌≡◌, drop, map, flat_map}
use Rattle.spectra_resolved.specs.Findings.{with_faults}
use Rattle.spectra_resolved.specs.Reports.{found_in}
use Rattle.spectra_declared.specs.ItemViews.{filed_data}
use Rattle.spectra_declared.specs.Declarations.{imported_faults}
use Rattle.spectra_declared.proofs.limits.report_imported.Given as goal

-- what is left is the answer
abbrev pub invariant-loop-filed : goal.invariant-loop-filed
invariant-loop-filed l =
    with_faults (found_in l.findings) (flat_map (imported_faults l.last) (map filed_data (drop l.filed-index l.items))) ≡ with_faults (found_in l.fn.findings) (flat_map (imported_faults l.last) (map filed_data l.items))
