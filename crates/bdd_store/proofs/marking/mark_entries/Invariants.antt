use Rattle.std.proofs.Common.{take}
use Rattle.std.specs.List.{Contains}
use Rattle.node_table.specs.Table.{IsSound}
use Rattle.bdd_store.specs.Kept.{MarksAll}
use Rattle.bdd_store.proofs.marking.mark_entries.Given as goal

abbrev pub invariant-loop-n : goal.invariant-loop-n
invariant-loop-n l = record {
  marks : MarksAll l.initial.nodes l.nodes (λ r. Contains (take l.n-index l.entries) r);
  sound : IsSound l.nodes;
}
