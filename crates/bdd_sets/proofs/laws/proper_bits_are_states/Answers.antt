use Rattle.bdd_sets.proofs.ProperLemmas.{proper_tells}
use Rattle.bdd_sets.proofs.laws.proper_bits_are_states.Goals as goal

pub returns : goal.returns
returns c = λ g at. proper_tells g at
