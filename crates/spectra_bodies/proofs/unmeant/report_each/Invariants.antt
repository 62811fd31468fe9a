use Rattle.std.proofs.Common.{◌≡◌, drop, map, flat_map}
use Rattle.spectra_resolved.specs.Findings.{with_faults}
use Rattle.spectra_resolved.specs.Reports.{found_in}
use Rattle.spectra_resolved.specs.TextViews.{type_data}
use Rattle.spectra_bounds.specs.TypeViews.{constants_data}
use Rattle.spectra_bodies.specs.Unmeant.{unmeant}
use Rattle.spectra_bodies.proofs.unmeant.report_each.Given as goal

-- what is left to find gives the answer
abbrev pub invariant-loop-t : goal.invariant-loop-t
invariant-loop-t l =
    with_faults (found_in l.findings) (flat_map (unmeant (constants_data l.constants)) (map type_data (drop l.t-index l.ts)))
    ≡ with_faults (found_in l.fn.findings) (flat_map (unmeant (constants_data l.constants)) (map type_data l.ts))
