use Rattle.spectra_bodies.proofs.Meaning.{ranges_have_numbers}
use Rattle.spectra_bodies.proofs.laws.ranges_have_numbers.Goals as goal

pub returns : goal.returns
returns c = ranges_have_numbers
