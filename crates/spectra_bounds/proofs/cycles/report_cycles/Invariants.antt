use Rattle.std.proofs.Common.{◌≡◌, drop}
use Rattle.spectra_resolved.specs.Findings.{with_faults}
use Rattle.spectra_resolved.specs.Reports.{found_in}
use Rattle.spectra_bounds.specs.Cycles.{cycle_faults}
use Rattle.spectra_bounds.proofs.cycles.report_cycles.Given as goal

-- what is left to find gives the answer
abbrev pub invariant-loop-k : goal.invariant-loop-k
invariant-loop-k l =
    with_faults (found_in l.findings) (cycle_faults (drop l.k l.on_cycle) (drop l.k l.places)) ≡ with_faults (found_in l.fn.findings) (cycle_faults l.on_cycle l.places)
