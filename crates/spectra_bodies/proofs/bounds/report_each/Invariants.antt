use Rattle.std.proofs.Common.{◌≡◌, drop, map, flat_map}
use Rattle.spectra_resolved.specs.Findings.{with_faults}
use Rattle.spectra_resolved.specs.Reports.{found_in}
use Rattle.spectra_resolved.specs.TextViews.{type_data}
use Rattle.spectra_bodies.specs.Faults.{type_faults}
use Rattle.spectra_bodies.specs.BasisViews.{basis_data}
use Rattle.spectra_bodies.proofs.bounds.report_each.Given as goal

-- what is left to find gives the answer
abbrev pub invariant-loop-t : goal.invariant-loop-t
invariant-loop-t l =
    with_faults (found_in l.findings) (flat_map (type_faults (basis_data l.basis)) (map type_data (drop l.t-index l.ts)))
    ≡ with_faults (found_in l.fn.findings) (flat_map (type_faults (basis_data l.basis)) (map type_data l.ts))
