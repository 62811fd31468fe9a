use Rattle.variable_order.proofs.OneLemmas.{one_number}
use Rattle.variable_order.proofs.laws.one_number_of_parts.Goals as goal

pub returns : goal.returns
returns c = one_number
