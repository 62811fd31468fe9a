use Rattle.spectra_judge.proofs.Least as lemmas
use Rattle.spectra_judge.proofs.laws.first_is_least.Goals as goal

pub returns : goal.returns
returns c = lemmas.first_is_least
