use Rattle.std.proofs.Common.{◌≡◌, ◌-◌}
use Rattle.spec_model.specs.DiagramReads.{bits_of}
use Rattle.bdd_store.specs.State.{IsEdge}
use Rattle.bdd_ops.specs.Contents.{function_at}
use Rattle.bdd_ops.specs.Steps.{level_at}
use Rattle.bdd_ops.proofs.work.Work.eval.Given as goal

-- the edge that is left has the diagram's value
abbrev pub invariant-loop-level : goal.invariant-loop-level
invariant-loop-level l =
    record {
      live : IsEdge l.self.state l.edge.0;
      same : function_at l.self l.edge.0 (bits_of l.bits) ≡ function_at l.self l.a (bits_of l.bits);
    }

abbrev pub decreases-loop-level : goal.decreases-loop-level
decreases-loop-level l = l.self.state.table.levels - level_at l.self l.edge.0
