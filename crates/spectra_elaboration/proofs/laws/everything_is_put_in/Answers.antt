use Rattle.spectra_elaboration.proofs.Written as lemmas
use Rattle.spectra_elaboration.proofs.laws.everything_is_put_in.Goals as goal

pub returns : goal.returns
returns c = lemmas.everything_is_put_in
