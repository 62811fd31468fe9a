use Rattle.std.proofs.Common.{◌≡◌, map, drop}
use Rattle.serde_json.specs.View.{view}
use Rattle.strategy_tables.specs.Views.{node_data}
use Rattle.strategy_text.specs.Reading.{all_read, node_of}
use Rattle.strategy_text.specs.Views.{reader_names, reader_game}
use Rattle.strategy_text.proofs.Lists.{before}
use Rattle.strategy_text.proofs.reader.Reader.each_node.Given as goal

-- what is left decides
abbrev pub invariant-loop-json : goal.invariant-loop-json
invariant-loop-json l =
    before (map node_data l.nodes.items) (all_read (node_of (reader_names l.self) (reader_game l.self) l.kind) (drop l.json-index (map view l.list)))
    ≡ all_read (node_of (reader_names l.self) (reader_game l.self) l.kind) (map view l.list)
