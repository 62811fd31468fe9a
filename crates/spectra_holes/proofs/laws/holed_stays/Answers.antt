use Rattle.spectra_holes.proofs.Stays as lemmas
use Rattle.spectra_holes.proofs.laws.holed_stays.Goals as goal

pub returns : goal.returns
returns c = lemmas.holed_stays
