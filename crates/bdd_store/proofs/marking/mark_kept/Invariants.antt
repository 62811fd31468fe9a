use Rattle.node_table.specs.Table.{IsSound}
use Rattle.bdd_store.specs.Kept.{MarksAll}
use Rattle.bdd_store.proofs.Reclaiming.{IsKeptBelow}
use Rattle.bdd_store.proofs.marking.mark_kept.Given as goal

abbrev pub invariant-loop-n : goal.invariant-loop-n
invariant-loop-n l = record {
  marks : MarksAll l.initial.nodes l.nodes (IsKeptBelow l.kept l.n);
  sound : IsSound l.nodes;
}
