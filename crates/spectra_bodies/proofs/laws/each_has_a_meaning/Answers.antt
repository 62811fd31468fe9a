use Rattle.spectra_bodies.proofs.Meaning.{each_has_a_meaning}
use Rattle.spectra_bodies.proofs.laws.each_has_a_meaning.Goals as goal

pub returns : goal.returns
returns c = each_has_a_meaning
