use Rattle.std.proofs.Common.{◌+◌, [], ◌∷◌, map, drop, sym, ◌∙◌}
use Rattle.std.proofs.lemmas.List.{map-append}
use Rattle.std.proofs.lemmas.Result.{err_from_is_err_and}
use Rattle.serde_json.specs.View.{view}
use Rattle.strategy_tables.specs.Views.{node_data}
use Rattle.strategy_text.specs.Reading.{node_of}
use Rattle.strategy_text.specs.Views.{reader_names, reader_game}
use Rattle.strategy_text.proofs.Answers.{gives, fails}
use Rattle.strategy_text.proofs.Lists.{before-nothing, left_at, left_past, all_read-step, all_read-stop, all_read-end}
use Rattle.strategy_text.proofs.reader.Reader.each_node.Goals as goal

pub loop-json-init : goal.loop-json-init
loop-json-init c = rw c.new-nodes.ensures.items (before-nothing _)

pub returns-in_err-node : goal.returns-in_err-node
returns-in_err-node c =
    let reader = node_of (reader_names c.args.self.now) (reader_game c.args.self.now) c.args.kind in
    let js = map view c.args.list.now in
    let i = c.loop-json.json-index in
    let j = c.json-item.result in
    let here = left_at view c.args.list.now i j c.loop-json-test.true c.json-item.is in
    let p = err_from_is_err_and c.from_residual.result c.from_residual.ensures.1 in
    rw (p.1, p.2) (fails c.in_err-node.ensures (λ none. sym c.loop-json.invariant ∙ all_read-stop reader (map node_data c.loop-json.nodes.items) (drop i js) (view j) (drop (i + 1) js) here none))

pub loop-json-preserved : goal.loop-json-preserved
loop-json-preserved c =
    let reader = node_of (reader_names c.args.self.now) (reader_game c.args.self.now) c.args.kind in
    let js = map view c.args.list.now in
    let i = c.loop-json.json-index in
    let j = c.json-item.result in
    let v = c.in_ok-node.field-0 in
    let here = left_at view c.args.list.now i j c.loop-json-test.true c.json-item.is in
    let step = all_read-step reader (map node_data c.loop-json.nodes.items) (drop i js) (view j) (drop (i + 1) js) (node_data v) here c.in_ok-node.ensures.ok in
    rw (c.in_ok-push.ensures.items, map-append node_data c.loop-json.nodes.items (v ∷ [])) (sym step ∙ c.loop-json.invariant)

pub returns : goal.returns
returns c =
    let reader = node_of (reader_names c.args.self.now) (reader_game c.args.self.now) c.args.kind in
    let js = map view c.args.list.now in
    let i = c.loop-json.json-index in
    gives (sym c.loop-json.invariant ∙ all_read-end reader (map node_data c.loop-json.nodes.items) (drop i js) (left_past view c.args.list.now i c.loop-json-test.false))
