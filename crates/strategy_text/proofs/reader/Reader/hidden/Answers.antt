use Rattle.std.proofs.Common.{◌≡◌, ◌+◌, [], ◌∷◌, map, drop, length, sym, ap, subst, ◌∙◌, arith}
use Rattle.std.proofs.lemmas.List.{length-map, map-append}
use Rattle.game_play.specs.Sights.{cell_in}
use Rattle.serde_json.specs.View.{view}
use Rattle.spec_model.specs.Games.{HiddenData}
use Rattle.spec_model.specs.GameViews.{hidden_data}
use Rattle.strategy_text.specs.Reading.{count_below}
use Rattle.strategy_text.proofs.Answers.{gives, refuses}
use Rattle.strategy_text.proofs.Lists.{before-nothing, left_at, left_past, each_read-step, each_read-stop, each_read-end, each_read-uneven}
use Rattle.strategy_text.proofs.reader.Reader.hidden.Goals as goal

pub returns-then-list-tables : goal.returns-then-list-tables
returns-then-list-tables c =
    let hs = c.args.self.now.game.now.hidden.items in
    refuses (each_read-uneven (λ (h : HiddenData). count_below h.values) (map hidden_data hs) (map view c.args.list.now)
    (λ same. absurd (omega (arith, same, length-map hs hidden_data, length-map c.args.list.now view, ap length c.as_slice-tables.ensures.value, c.if-list-tables.true))))

pub loop-i-init : goal.loop-i-init
loop-i-init c = rw c.new-cells.ensures.items (before-nothing _)

pub returns-in_default : goal.returns-in_default
returns-in_default c =
    let hs = map hidden_data c.args.self.now.game.now.hidden.items in
    let js = map view c.args.list.now in
    let i = c.loop-i.i in
    let h = c.index-tables-i.result in
    let j = c.index-list-i.result in
    let wanted = subst (λ xs. drop i (map hidden_data xs) ≡ hidden_data h ∷ drop (i + 1) (map hidden_data xs)) c.as_slice-tables.ensures.value (left_at hidden_data c.as_slice-tables.result.now i h c.loop-i-test.true c.index-tables-i.is) in
    let here = left_at view c.args.list.now i j (omega (arith, c.loop-i-test.true, c.if-list-tables.false)) c.index-list-i.is in
    refuses (sym c.loop-i.invariant ∙ each_read-stop (λ (h : HiddenData). count_below h.values) (map cell_in c.loop-i.cells.items) (drop i hs) (hidden_data h) (drop (i + 1) hs) (drop i js) (view j) (drop (i + 1) js) wanted here (sym c.in_default.ensures))

pub loop-i-preserved : goal.loop-i-preserved
loop-i-preserved c =
    let hs = map hidden_data c.args.self.now.game.now.hidden.items in
    let js = map view c.args.list.now in
    let i = c.loop-i.i in
    let h = c.index-tables-i.result in
    let j = c.index-list-i.result in
    let wanted = subst (λ xs. drop i (map hidden_data xs) ≡ hidden_data h ∷ drop (i + 1) (map hidden_data xs)) c.as_slice-tables.ensures.value (left_at hidden_data c.as_slice-tables.result.now i h c.loop-i-test.true c.index-tables-i.is) in
    let here = left_at view c.args.list.now i j (omega (arith, c.loop-i-test.true, c.if-list-tables.false)) c.index-list-i.is in
    let step = each_read-step (λ (h : HiddenData). count_below h.values) (map cell_in c.loop-i.cells.items) (drop i hs) (hidden_data h) (drop (i + 1) hs) (drop i js) (view j) (drop (i + 1) js) (cell_in c.in-Some.value) wanted here (sym c.in-Some.ensures) in
    rw (c.in_ok-push.ensures.items, map-append cell_in c.loop-i.cells.items (c.in-Some.value ∷ [])) (sym step ∙ c.loop-i.invariant)

pub returns : goal.returns
returns c =
    let hs = map hidden_data c.args.self.now.game.now.hidden.items in
    let js = map view c.args.list.now in
    let i = c.loop-i.i in
    let wanted = subst (λ xs. drop i (map hidden_data xs) ≡ []) c.as_slice-tables.ensures.value (left_past hidden_data c.as_slice-tables.result.now i (omega (arith, c.loop-i-test.false))) in
    let here = left_past view c.args.list.now i (omega (arith, c.loop-i-test.false, c.if-list-tables.false)) in
    gives (sym c.loop-i.invariant ∙ each_read-end (λ (h : HiddenData). count_below h.values) (map cell_in c.loop-i.cells.items) (drop i hs) (drop i js) wanted here)
