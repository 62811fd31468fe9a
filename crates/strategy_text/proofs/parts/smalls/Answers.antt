use Rattle.std.proofs.Common.{sym, ◌∙◌, ◌+◌, map, drop}
use Rattle.serde_json.specs.View.{view}
use Rattle.strategy_text.specs.Reading.{small_of}
use Rattle.strategy_text.proofs.Answers.{gives, refuses}
use Rattle.strategy_text.proofs.Lists.{before-nothing, left_at, left_past, all_read-step, all_read-stop, all_read-end}
use Rattle.strategy_text.proofs.parts.smalls.Goals as goal

pub loop-json-init : goal.loop-json-init
loop-json-init c = rw c.new-numbers.ensures.items (before-nothing _)

pub returns-in_default : goal.returns-in_default
returns-in_default c =
    let js = map view c.args.list.now in
    let i = c.loop-json.json-index in
    let here = left_at view c.args.list.now i c.json-item.result c.loop-json-test.true c.json-item.is in
    refuses (sym c.loop-json.invariant ∙ all_read-stop small_of c.loop-json.numbers.items (drop i js) (view c.json-item.result) (drop (i + 1) js) here (sym c.in_default.ensures))

pub loop-json-preserved : goal.loop-json-preserved
loop-json-preserved c =
    let js = map view c.args.list.now in
    let i = c.loop-json.json-index in
    let here = left_at view c.args.list.now i c.json-item.result c.loop-json-test.true c.json-item.is in
    rw c.in_ok-push.ensures.items
    (sym (all_read-step small_of c.loop-json.numbers.items (drop i js) (view c.json-item.result) (drop (i + 1) js) c.in-Some.n here (sym c.in-Some.ensures)) ∙ c.loop-json.invariant)

pub returns : goal.returns
returns c =
    let js = map view c.args.list.now in
    let i = c.loop-json.json-index in
    gives (sym c.loop-json.invariant ∙ all_read-end small_of c.loop-json.numbers.items (drop i js) (left_past view c.args.list.now i c.loop-json-test.false))
