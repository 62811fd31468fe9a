use Rattle.std.proofs.Common.{◌-◌}
use Rattle.bdd_ops.specs.Steps.{level_at}
use Rattle.bdd_ops.specs.Together.{IsSettled}
use Rattle.bdd_ops.proofs.work.Work.settled.Given as goal

abbrev pub invariant-loop-level : goal.invariant-loop-level
invariant-loop-level l = IsSettled l.self l.fixed l.fn.e l.edge

abbrev pub decreases-loop-level : goal.decreases-loop-level
decreases-loop-level l = l.self.state.table.levels - level_at l.self l.edge.0
