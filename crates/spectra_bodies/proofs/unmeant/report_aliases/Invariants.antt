use Rattle.std.proofs.Common.{◌≡◌, drop, map, flat_map}
use Rattle.spectra_resolved.specs.Findings.{with_faults}
use Rattle.spectra_resolved.specs.Reports.{found_in}
use Rattle.spectra_resolved.specs.Texts.{ResolvedAlias}
use Rattle.spectra_resolved.specs.TextViews.{alias_data}
use Rattle.spectra_bounds.specs.TypeViews.{constants_data}
use Rattle.spectra_bodies.specs.Unmeant.{unmeant}
use Rattle.spectra_bodies.proofs.unmeant.report_aliases.Given as goal

-- what is left to find gives the answer
abbrev pub invariant-loop-alias : goal.invariant-loop-alias
invariant-loop-alias l =
    with_faults (found_in l.findings) (flat_map (λ (a : ResolvedAlias). unmeant (constants_data l.constants) a.body) (map alias_data (drop l.alias-index l.types)))
    ≡ with_faults (found_in l.fn.findings) (flat_map (λ (a : ResolvedAlias). unmeant (constants_data l.constants) a.body) (map alias_data l.types))
