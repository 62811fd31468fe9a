use Rattle.std.proofs.Common.{◌≡◌}
use Rattle.node_table.specs.Table.{IsSound}
use Rattle.worked_diagrams.proofs.nodes.many_nodes_are_found_again_after_the_slots_grew.Given as goal

abbrev pub invariant-loop-level : goal.invariant-loop-level
invariant-loop-level g l = record { sound : IsSound l.table; levels : l.table.levels ≡ 3000 }

abbrev pub invariant-loop-level-2 : goal.invariant-loop-level-2
invariant-loop-level-2 g l = record { sound : IsSound l.table; levels : l.table.levels ≡ 3000 }
