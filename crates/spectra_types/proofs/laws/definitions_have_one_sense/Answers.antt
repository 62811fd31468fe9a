use Rattle.spectra_types.proofs.SenseTheorem as lemmas
use Rattle.spectra_types.proofs.laws.definitions_have_one_sense.Goals as goal

pub returns : goal.returns
returns c = lemmas.definitions_have_one_sense
