use Rattle.bdd_reorder.specs.Making.{functions_at}
use Rattle.variable_order.specs.Stores.{Stays}
use Rattle.variable_order.specs.Climbing.{KnowsBest}
use Rattle.variable_order.proofs.rounds.try_places.Given as goal

-- the moves to the places so far are tried
abbrev pub invariant-loop-j : goal.invariant-loop-j
invariant-loop-j l =
    record {
      known : KnowsBest l.fixed l.widths (functions_at l.fn.from l.roots) l.order l.nodes l.i l.j l.best.nodes l.best.slot;
      from_stays : Stays l.fn.from l.from;
      to_stays : Stays l.fn.to l.to;
    }
