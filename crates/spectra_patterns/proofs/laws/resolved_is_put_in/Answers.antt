use Rattle.spectra_patterns.proofs.Named as lemmas
use Rattle.spectra_patterns.proofs.laws.resolved_is_put_in.Goals as goal

pub returns : goal.returns
returns c = lemmas.resolved_put
