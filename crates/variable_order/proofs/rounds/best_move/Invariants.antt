use Rattle.bdd_reorder.specs.Making.{functions_at}
use Rattle.variable_order.specs.Stores.{Stays}
use Rattle.variable_order.specs.Climbing.{KnowsBest}
use Rattle.variable_order.proofs.rounds.best_move.Given as goal

-- the moves of the slots at the places so far are tried
abbrev pub invariant-loop-i : goal.invariant-loop-i
invariant-loop-i l =
    record {
      known : KnowsBest l.fixed l.widths (functions_at l.fn.from l.roots) l.order l.nodes l.i l.fixed l.best.nodes l.best.slot;
      from_stays : Stays l.fn.from l.from;
      to_stays : Stays l.fn.to l.to;
    }
