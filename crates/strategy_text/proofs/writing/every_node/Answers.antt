use Rattle.std.proofs.Common.{◌≡◌, ◌≤◌, Some, map, length, slice_get, option_map, string_bytes, refl, ap, ◌∙◌, arith}
use Rattle.std.proofs.lemmas.List.{length-map}
use Rattle.std.proofs.lemmas.Option.{slice_get-map, slice_get_read}
use Rattle.strategy_tables.specs.Views.{node_data}
use Rattle.strategy_text.specs.Laws.{HasSmallNumbers}
use Rattle.strategy_text.specs.Written.{node_json}
use Rattle.strategy_text.proofs.Listing.{written-more, written-all, small-more}
use Rattle.strategy_text.proofs.writing.every_node.Goals as goal

pub loop-node-preserved : goal.loop-node-preserved
loop-node-preserved c =
    let nodes = c.args.nodes.now in
    let i = c.loop-node.node-index in
    let v = c.node-item.result in
    let here : slice_get (map node_data nodes) i ≡ Some (node_data v) = slice_get-map node_data nodes i ∙ ap (option_map node_data) (slice_get_read nodes (length nodes) i v refl c.loop-node-test.true c.node-item.is) in
    record {
      written = rw c.in_ok-push.ensures.items
          (written-more (node_json (map string_bytes c.args.names.now) c.args.kind) c.loop-node.list.items c.in_ok-one_node.field-0 (map node_data nodes) i (node_data v) here c.loop-node.invariant.written c.in_ok-one_node.ensures.json);
      small = small-more HasSmallNumbers (map node_data nodes) i (node_data v) here c.loop-node.invariant.small c.in_ok-one_node.ensures.small;
    }

pub returns-clause-json : goal.returns-clause-json
returns-clause-json c =
    let nodes = c.args.nodes.now in
    let past : length (map node_data nodes) ≤ c.loop-node.node-index = omega (arith, length-map nodes node_data, c.loop-node-test.false) in
    written-all (node_json (map string_bytes c.args.names.now) c.args.kind) c.loop-node.list (map node_data nodes) c.loop-node.node-index past c.loop-node.invariant.written
