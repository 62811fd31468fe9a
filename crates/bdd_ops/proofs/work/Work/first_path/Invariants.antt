use Rattle.std.proofs.Common.{◌+◌, ◌-◌}
use Rattle.spec_model.specs.DiagramReads.{bits_of}
use Rattle.bdd_ops.specs.Contents.{function_at}
use Rattle.bdd_ops.specs.Searching.{cost, pending}
use Rattle.bdd_ops.specs.Ways.{IsWay, IsLed}
use Rattle.bdd_ops.proofs.work.Work.first_path.Given as goal

abbrev pub invariant-search : goal.invariant-search
invariant-search l = record {
  way : IsWay l.fixed (function_at l.self l.root.0) l.level (bits_of l.out);
  led : IsLed l.self (function_at l.self l.root.0) l.level (bits_of l.out) l.edge.0;
}

abbrev pub decreases-search : goal.decreases-search
decreases-search l = cost (l.self.state.table.levels - l.level) + pending (bits_of l.out) l.self.state.table.levels l.level
