use Rattle.std.proofs.Common.{◌≡◌, drop, map, flat_map}
use Rattle.spectra_resolved.specs.Findings.{with_faults}
use Rattle.spectra_resolved.specs.Reports.{found_in}
use Rattle.spectra_resolved.specs.Texts.{ResolvedDefinition}
use Rattle.spectra_resolved.specs.TextViews.{definition_data}
use Rattle.spectra_bodies.specs.Faults.{each_type_faults}
use Rattle.spectra_bodies.specs.BasisViews.{basis_data}
use Rattle.spectra_bodies.proofs.types.report_parameters.Given as goal

-- what is left to find gives the answer
abbrev pub invariant-loop-definition : goal.invariant-loop-definition
invariant-loop-definition l =
    with_faults (found_in l.findings) (flat_map (λ (d : ResolvedDefinition). each_type_faults (basis_data l.basis) d.params) (map definition_data (drop l.definition-index l.definitions)))
    ≡ with_faults (found_in l.fn.findings) (flat_map (λ (d : ResolvedDefinition). each_type_faults (basis_data l.basis) d.params) (map definition_data l.definitions))
