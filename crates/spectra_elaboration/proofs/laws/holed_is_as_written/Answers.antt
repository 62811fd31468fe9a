use Rattle.spectra_elaboration.proofs.Meant as lemmas
use Rattle.spectra_elaboration.proofs.laws.holed_is_as_written.Goals as goal

pub returns : goal.returns
returns c = lemmas.holed_is_as_written
