use Rattle.spectra_types.proofs.Spans as lemmas
use Rattle.spectra_types.proofs.laws.spans_are_exact.Goals as goal

pub returns : goal.returns
returns c = lemmas.spans_are_exact
