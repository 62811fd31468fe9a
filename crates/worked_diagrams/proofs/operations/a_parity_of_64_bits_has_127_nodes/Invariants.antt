use Rattle.std.proofs.Common.{◌≡◌}
use Rattle.bdd_store.specs.State.{IsRoot}
use Rattle.worked_diagrams.proofs.operations.a_parity_of_64_bits_has_127_nodes.Given as goal

abbrev pub invariant-loop-k : goal.invariant-loop-k
invariant-loop-k g l =
    record {
      kept : IsRoot l.diagrams.state l.x;
      levels : l.diagrams.state.table.levels ≡ 64;
    }
