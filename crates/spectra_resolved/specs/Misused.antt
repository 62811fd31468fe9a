-- The fault of a misused name, where it stands.
use Rattle.std.specs.Prelude.{List, [], ◌∷◌}
use Rattle.spectra_resolved.specs.declared.spot.Spot.{Spot}
use Rattle.spectra_resolved.specs.declared.findings.Finding.{Finding}
use Rattle.spectra_resolved.specs.Findings.{fault}
use Rattle.spectra_resolved.specs.Resolved.{Form}
use Rattle.spectra_resolved.specs.Resolving.{fault_of}

-- a misused name, at the name
abbrev pub own_misuse : Spot → Form → List Finding
own_misuse at (Form.MisuseOf m ts) = fault (fault_of m) at ∷ []
own_misuse at _ = []
