use Rattle.std.proofs.Common.{◌≡◌, drop, map, flat_map}
use Rattle.spectra_resolved.specs.Findings.{with_faults}
use Rattle.spectra_resolved.specs.Reports.{found_in}
use Rattle.spectra_resolved.specs.Texts.{ResolvedVariable}
use Rattle.spectra_resolved.specs.TextViews.{variable_data}
use Rattle.spectra_bodies.specs.Faults.{type_faults}
use Rattle.spectra_bodies.specs.BasisViews.{basis_data}
use Rattle.spectra_bodies.proofs.types.report_variables.Given as goal

-- what is left to find gives the answer
abbrev pub invariant-loop-variable : goal.invariant-loop-variable
invariant-loop-variable l =
    with_faults (found_in l.findings) (flat_map (λ (v : ResolvedVariable). type_faults (basis_data l.basis) v.domain) (map variable_data (drop l.variable-index l.variables)))
    ≡ with_faults (found_in l.fn.findings) (flat_map (λ (v : ResolvedVariable). type_faults (basis_data l.basis) v.domain) (map variable_data l.variables))
