use Rattle.variable_order.proofs.OneLemmas.{one_climb}
use Rattle.variable_order.proofs.laws.a_climb_ends_at_one_order.Goals as goal

pub returns : goal.returns
returns c = λ fixed widths start last other fs n k l a b. one_climb fixed widths fs start n last other k l a b
