-- Bounds in which nothing has to be put in.
use Rattle.std.specs.Prelude.{◌≡◌, ℤ, [], Some}
use Rattle.spectra_resolved.specs.declared.stand.Stand.TheVariants as stand
use Rattle.spectra_resolved.specs.Resolved.{ResolvedTree}
use Rattle.spectra_judge.specs.Known.{Known}
use Rattle.spectra_elaboration.specs.Putting.{Bodies}
use Rattle.spectra_bounds.specs.Numbers.{Constants, sound_number}
use Rattle.spectra_bodies.specs.PutIn.{put_in_faults}

-- A bound that has a number, by what is had of defines, has no fault with everything put in.
abbrev pub HaveSoundBounds : Constants → Bodies → Type 0
HaveSoundBounds c b = (known : Known) (t : ResolvedTree) (z : ℤ) → sound_number c stand.Bound t ≡ Some z → put_in_faults b known stand.Bound t ≡ []
