use Rattle.spec_order.proofs.FillLemmas.{crowded_below}
use Rattle.spec_order.proofs.laws.crowded_orders_only_below_the_need.Goals as goal

pub returns : goal.returns
returns c = crowded_below
