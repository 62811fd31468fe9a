use Rattle.std.proofs.Common.{◌≡◌, map, drop, sum, nat_lt}
use Rattle.std.specs.List.{list_all}
use Rattle.strategy_tables.specs.Rules.{bounds}
use Rattle.strategy_tables.specs.Views.{node_data}
use Rattle.table_check.specs.Nodes.{game_in, nodes_in}
use Rattle.table_check.proofs.checker.Checker.each_is_bounded.Given as goal

abbrev pub invariant-loop-v : goal.invariant-loop-v
invariant-loop-v l =
    list_all (λ v. nat_lt (sum (bounds (game_in l.self) (nodes_in l.self) v.layer v.goal)) l.limit) (map node_data (drop l.v-index l.self.nodes.now))
    ≡ list_all (λ v. nat_lt (sum (bounds (game_in l.self) (nodes_in l.self) v.layer v.goal)) l.limit) (nodes_in l.self)
