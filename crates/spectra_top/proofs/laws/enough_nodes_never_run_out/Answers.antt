use Rattle.spectra_top.proofs.Enough.{never_filled, enough}
use Rattle.spectra_top.proofs.laws.enough_nodes_never_run_out.Goals as goal

pub returns-clause-filled : goal.returns-clause-filled
returns-clause-filled c = never_filled c.crowded_only_below_the_need.ensures c.crowded_orders_only_below_the_need.ensures

pub returns-clause-decided : goal.returns-clause-decided
returns-clause-decided c = enough (never_filled c.crowded_only_below_the_need.ensures c.crowded_orders_only_below_the_need.ensures)
