use Rattle.std.proofs.Common.{◌≡◌, ◌-◌, ◌++◌}
use Rattle.bdd_store.specs.State.{IsEdge, diagram_of}
use Rattle.bdd_ops.specs.Steps.{level_at}
use Rattle.bdd_ops.specs.Straight.{levels_on}
use Rattle.bdd_ops.proofs.work.Work.path.Given as goal

-- the levels that are written, with those from the edge that is left on, are the path's
abbrev pub invariant-loop-level : goal.invariant-loop-level
invariant-loop-level l =
    record {
      live : IsEdge l.self.state l.edge.0;
      whole : l.levels.items ++ levels_on l.towards (diagram_of l.self.state l.edge.0) ≡ l.fn.levels.items ++ levels_on l.towards (diagram_of l.self.state l.a);
    }

abbrev pub decreases-loop-level : goal.decreases-loop-level
decreases-loop-level l = l.self.state.table.levels - level_at l.self l.edge.0
