use Rattle.std.proofs.Common.{◌≡◌, map, take}
use Rattle.spec_model.specs.GameViews.{game_data}
use Rattle.strategy_tables.specs.Views.{node_data}
use Rattle.table_check.specs.Nodes.{held_at}
use Rattle.table_check.proofs.held.held_at_each.Given as goal

abbrev pub invariant-loop-v : goal.invariant-loop-v
invariant-loop-v l = l.all.items ≡ map (held_at (game_data l.game)) (map node_data (take l.v-index l.nodes))
