use Rattle.spectra_types.proofs.Worked as lemmas
use Rattle.spectra_types.proofs.laws.use_is_worked.Goals as goal

pub returns : goal.returns
returns c = lemmas.use_is_worked
