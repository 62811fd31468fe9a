use Rattle.std.proofs.Common.{◌≡◌, drop, map, flat_map}
use Rattle.spectra_resolved.specs.Findings.{with_faults}
use Rattle.spectra_resolved.specs.Reports.{found_in}
use Rattle.spectra_resolved.specs.Texts.{ResolvedDefinition}
use Rattle.spectra_resolved.specs.TextViews.{definition_data, text_data}
use Rattle.spectra_notes.specs.Notes.{body_faults, known_inside, noted}
use Rattle.spectra_bodies.proofs.definitions.report_bodies.Given as goal

-- what is left to find gives the answer
abbrev pub invariant-loop-k : goal.invariant-loop-k
invariant-loop-k l =
    with_faults (found_in l.findings)
    (flat_map (λ (d : ResolvedDefinition). body_faults (known_inside (text_data l.text) (noted (text_data l.text)).defines d) d) (map definition_data (drop l.k l.text.definitions.items)))
    ≡ with_faults (found_in l.fn.findings)
    (flat_map (λ (d : ResolvedDefinition). body_faults (known_inside (text_data l.text) (noted (text_data l.text)).defines d) d) (map definition_data l.text.definitions.items))
