-- A law over the definitions alone, which the function of its name in src/laws.rt proves.
use Rattle.std.specs.Prelude.{◌≡◌, false, List, [], Option, Some, None, All, Contains}
use Rattle.spectra_resolved.specs.declared.findings.Finding.{Finding}
use Rattle.spectra_resolved.specs.Findings.{precedes, first_of_faults}

-- none where there are no faults, and else one of them that no other one comes before
abbrev pub IsFirst : List Finding → Option Finding → Type 0
IsFirst fs None = fs ≡ []
IsFirst fs (Some f) = Contains fs f × All (λ g. precedes g f ≡ false) fs

abbrev pub FirstIsLeast : Type 0
FirstIsLeast = (fs : List Finding) → IsFirst fs (first_of_faults fs)
