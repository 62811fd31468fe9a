-- A law over the definitions alone, which the function of its name in src/laws.rt proves.
use Rattle.std.specs.Prelude.{◌≡◌, true, []}
use Rattle.spectra_resolved.specs.declared.stand.Stand.{Stand}
use Rattle.spectra_resolved.specs.Resolved.{ResolvedTree}
use Rattle.spectra_judge.specs.Known.{Known}
use Rattle.spectra_judge.specs.Judged.{faults_of}
use Rattle.spectra_holes.specs.Holed.{holed}
use Rattle.spectra_holes.specs.HoleViews.{is_meant}

-- Where an expression has no fault as it is written, and no parameter's type is without meaning, no argument becomes a hole.
abbrev pub HoledStays : Type 0
HoledStays = (known : Known) (stand : Stand) (t : ResolvedTree) → is_meant known t ≡ true → faults_of known stand t ≡ [] → holed known stand t ≡ t
