use Rattle.std.proofs.Common.{◌≡◌, drop, map, flat_map}
use Rattle.spectra_resolved.specs.Findings.{with_faults}
use Rattle.spectra_resolved.specs.Reports.{found_in}
use Rattle.spectra_resolved.specs.Texts.{ResolvedAlias}
use Rattle.spectra_resolved.specs.TextViews.{alias_data}
use Rattle.spectra_bodies.specs.Faults.{type_faults}
use Rattle.spectra_bodies.specs.BasisViews.{basis_data}
use Rattle.spectra_bodies.proofs.types.report_aliases.Given as goal

-- what is left to find gives the answer
abbrev pub invariant-loop-alias : goal.invariant-loop-alias
invariant-loop-alias l =
    with_faults (found_in l.findings) (flat_map (λ (a : ResolvedAlias). type_faults (basis_data l.basis) a.body) (map alias_data (drop l.alias-index l.types)))
    ≡ with_faults (found_in l.fn.findings) (flat_map (λ (a : ResolvedAlias). type_faults (basis_data l.basis) a.body) (map alias_data l.types))
