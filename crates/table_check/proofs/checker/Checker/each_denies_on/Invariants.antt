use Rattle.std.proofs.Common.{◌≡◌, drop, slice_get}
use Rattle.std.specs.List.{list_all}
use Rattle.strategy_tables.specs.Tables.{passes_if_some}
use Rattle.strategy_tables.specs.Rules.{denies_on}
use Rattle.strategy_tables.specs.Views.{node_data}
use Rattle.table_check.specs.Nodes.{game_in, nodes_in}
use Rattle.table_check.proofs.checker.Checker.each_denies_on.Given as goal

abbrev pub invariant-loop-target : goal.invariant-loop-target
invariant-loop-target l =
    list_all (λ t. passes_if_some (denies_on (game_in l.self) (node_data l.v)) (slice_get (nodes_in l.self) t)) (drop l.target-index l.v.next.items)
    ≡ list_all (λ t. passes_if_some (denies_on (game_in l.self) (node_data l.v)) (slice_get (nodes_in l.self) t)) l.v.next.items
