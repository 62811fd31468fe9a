use Rattle.std.proofs.Common.{◌≡◌}
use Rattle.bdd_store.specs.State.{SameRoots}
use Rattle.worked_diagrams.proofs.operations.tables_of_operations.Given as goal

abbrev pub invariant-loop-operation : goal.invariant-loop-operation
invariant-loop-operation g l =
    record {
      roots : SameRoots l.initial.diagrams.state l.diagrams.state;
      levels : l.diagrams.state.table.levels ≡ 3;
    }
