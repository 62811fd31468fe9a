use Rattle.spectra_cases.proofs.Lines as lemmas
use Rattle.spectra_cases.proofs.laws.pattern_is_typed.Goals as goal

pub returns : goal.returns
returns c = lemmas.pattern_is_typed
