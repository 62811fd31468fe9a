use Rattle.spectra_ranks.proofs.Ordered as lemmas
use Rattle.spectra_ranks.proofs.laws.acyclic_have_an_order.Goals as goal

pub returns : goal.returns
returns c = lemmas.ordered
