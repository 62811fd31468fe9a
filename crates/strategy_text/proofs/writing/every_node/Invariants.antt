use Rattle.std.proofs.Common.{◌≡◌, map, take, string_bytes, All}
use Rattle.serde_json.specs.View.{view}
use Rattle.strategy_tables.specs.Views.{node_data}
use Rattle.strategy_text.specs.Laws.{HasSmallNumbers}
use Rattle.strategy_text.specs.Written.{node_json}
use Rattle.strategy_text.proofs.writing.every_node.Given as goal

abbrev pub invariant-loop-node : goal.invariant-loop-node
invariant-loop-node l = record {
  written : map view l.list.items ≡ map (node_json (map string_bytes l.names) l.kind) (take l.node-index (map node_data l.nodes));
  small : All HasSmallNumbers (take l.node-index (map node_data l.nodes));
}
