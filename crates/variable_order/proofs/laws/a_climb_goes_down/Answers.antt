use Rattle.variable_order.proofs.OneLemmas.{goes_down}
use Rattle.variable_order.proofs.laws.a_climb_goes_down.Goals as goal

pub returns : goal.returns
returns c = λ fixed widths start last fs n k size climb. goes_down fixed widths start fs n size last k climb
