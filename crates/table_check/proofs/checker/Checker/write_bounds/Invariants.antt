use Rattle.std.proofs.Common.{◌≡◌, ℕ, suc, ◌<◌, max, length, map, drop, slice_index}
use Rattle.strategy_tables.specs.Rules.{bound}
use Rattle.strategy_tables.specs.Views.{node_data}
use Rattle.table_check.specs.Nodes.{game_in, nodes_in, capped}
use Rattle.table_check.proofs.checker.Checker.write_bounds.Given as goal

abbrev pub invariant-loop-k : goal.invariant-loop-k
invariant-loop-k l = (i : ℕ) → i < length l.sums →
    max (slice_index l.sums i) (capped (bound (game_in l.self) (map node_data (drop l.k l.self.nodes.now)) l.layer l.goal (suc i))) ≡ capped (bound (game_in l.self) (nodes_in l.self) l.layer l.goal (suc i))
