use Rattle.spectra_patterns.proofs.Shaped as lemmas
use Rattle.spectra_patterns.proofs.laws.pattern_is_typed.Goals as goal

pub returns : goal.returns
returns c = lemmas.pattern_typed
