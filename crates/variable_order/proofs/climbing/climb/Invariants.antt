use Rattle.std.proofs.Common.{◌≤◌, length}
use Rattle.bdd_reorder.specs.Making.{functions_at}
use Rattle.variable_order.specs.Levels.{IsOrder}
use Rattle.variable_order.specs.Stores.{Stays}
use Rattle.variable_order.specs.Climbing.{Reaches}
use Rattle.variable_order.proofs.climbing.climb.Given as goal

-- the order is reached by best moves
abbrev pub invariant-loop-order : goal.invariant-loop-order
invariant-loop-order l =
    record {
      order : IsOrder l.widths l.order.items;
      fixed : l.fixed ≤ length l.order.items;
      reached : Reaches l.fixed l.widths (functions_at l.fn.from l.roots) l.fn.start.order.items l.fn.start.nodes l.order.items l.nodes;
      from_stays : Stays l.fn.from l.from;
      to_stays : Stays l.fn.to l.to;
    }

abbrev pub decreases-loop-order : goal.decreases-loop-order
decreases-loop-order l = l.nodes
