-- Faults that are found where a test holds.
use Rattle.std.specs.Prelude.{ℕ, Bool, List, [], ◌∷◌, if◌then◌else◌}
use Rattle.spectra_resolved.specs.declared.spot.Spot.{Spot}
use Rattle.spectra_resolved.specs.declared.findings.Finding.{Finding}
use Rattle.spectra_resolved.specs.Findings.{fault}

-- no fault where a test fails, and one where it holds
abbrev pub fault_if : Bool → ℕ → Spot → List Finding
fault_if wrong number at = if wrong then fault number at ∷ [] else []
