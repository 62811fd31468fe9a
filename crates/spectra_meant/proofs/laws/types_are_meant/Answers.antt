use Rattle.spectra_meant.proofs.Chains as lemmas
use Rattle.spectra_meant.proofs.laws.types_are_meant.Goals as goal

pub returns : goal.returns
returns c = lemmas.types_meant
