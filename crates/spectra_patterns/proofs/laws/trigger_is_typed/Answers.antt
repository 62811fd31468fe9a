use Rattle.spectra_patterns.proofs.Regexes as lemmas
use Rattle.spectra_patterns.proofs.laws.trigger_is_typed.Goals as goal

pub returns : goal.returns
returns c = lemmas.trigger_typed
