use Rattle.bdd_search.proofs.OrderLemmas.{first_values}
use Rattle.bdd_search.proofs.laws.first_bits_have_first_values.Goals as goal

pub returns : goal.returns
returns c = λ ds us vs u v. first_values ds us vs u v
