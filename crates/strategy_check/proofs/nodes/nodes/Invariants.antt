use Rattle.std.proofs.Common.{Vec, ℕ, map, take}
use Rattle.std.specs.declared.alloc.Global.{Global}
use Rattle.spec_model.specs.GameViews.{game_data}
use Rattle.strategy_tables.specs.Views.{node_data}
use Rattle.strategy_check.specs.Seats.{seat_data}
use Rattle.strategy_check.specs.Nodes.{AreNodesOf}
use Rattle.strategy_check.proofs.nodes.nodes.Given as goal

abbrev pub invariant-loop-i : goal.invariant-loop-i
invariant-loop-i l = AreNodesOf (game_data l.game) (map node_data l.all.items) (map seat_data (take l.i l.seats)) (map (λ (row : Vec ℕ Global). row.items) (take l.i l.rows))
