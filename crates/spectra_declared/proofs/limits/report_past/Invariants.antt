use Rattle.std.proofs.Common.{◌≡◌, drop, map}
use Rattle.spectra_resolved.specs.Reports.{found_in}
use Rattle.spectra_declared.specs.ItemViews.{filed_data}
use Rattle.spectra_declared.specs.Declarations.{past}
use Rattle.spectra_declared.specs.LimitViews.{weight_of}
use Rattle.spectra_declared.proofs.limits.report_past.Given as goal

-- no fault so far, and what is left is the answer
abbrev pub invariant-loop-filed : goal.invariant-loop-filed
invariant-loop-filed l =
    record {
      none : found_in l.findings ≡ found_in l.fn.findings;
      left : past (weight_of l.limited) l.room (map filed_data (drop l.filed-index l.items)) ≡ past (weight_of l.limited) l.most (map filed_data l.items);
    }
