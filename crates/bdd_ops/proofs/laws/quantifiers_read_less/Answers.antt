use Rattle.bdd_ops.proofs.ReadingLemmas.{quantifiers_less}
use Rattle.bdd_ops.proofs.laws.quantifiers_read_less.Goals as goal

pub returns : goal.returns
returns c = quantifiers_less
