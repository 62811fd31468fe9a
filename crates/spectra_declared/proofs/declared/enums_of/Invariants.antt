use Rattle.std.proofs.Common.{◌≡◌, [], drop, map, if◌then◌else◌}
use Rattle.spectra_resolved.specs.Findings.{with_faults}
use Rattle.spectra_resolved.specs.Reports.{found_in}
use Rattle.spectra_resolved.specs.EnumViews.{names_in}
use Rattle.spectra_declared.specs.ItemViews.{filed_data}
use Rattle.spectra_declared.specs.Declarations.{enums_with, enums_in, names_past}
use Rattle.spectra_declared.proofs.declared.enums_of.Given as goal

-- those so far and those of what is left are all, and no limit is passed twice
abbrev pub invariant-loop-filed : goal.invariant-loop-filed
invariant-loop-filed l =
    record {
      names : enums_with (names_in l.enums) (map filed_data (drop l.filed-index l.items)) ≡ enums_in (map filed_data l.items);
      found : with_faults (found_in l.findings) (if l.passed then [] else names_past 65_535 (names_in l.enums) (map filed_data (drop l.filed-index l.items)))
          ≡ with_faults (found_in l.fn.findings) (names_past 65_535 [] (map filed_data l.items));
    }
