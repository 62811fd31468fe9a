use Rattle.std.proofs.Common.{◌≡◌, ℕ, suc, ◌<◌, max, length, map, drop, slice_index}
use Rattle.strategy_tables.specs.Rules.{greatest_rank}
use Rattle.strategy_tables.specs.Views.{node_data}
use Rattle.table_check.proofs.sums.write_ranks.Given as goal

abbrev pub invariant-loop-v : goal.invariant-loop-v
invariant-loop-v l = (i : ℕ) → i < length l.sums → max (slice_index l.sums i) (greatest_rank (map node_data (drop l.v-index l.nodes)) (suc i)) ≡ greatest_rank (map node_data l.nodes) (suc i)
