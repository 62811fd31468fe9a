use Rattle.std.proofs.Common.{◌≡◌, ◌≤◌, false, Some, map, length, slice_get, option_map, sym, ap, ◌∙◌, arith}
use Rattle.std.proofs.lemmas.List.{length-map}
use Rattle.std.proofs.lemmas.Option.{slice_get-map, slice_get-get_or}
use Rattle.spec_model.specs.declared.value.Value.TheVariants as value
use Rattle.game_play.specs.Sights.{cell_in}
use Rattle.strategy_text.specs.Written.{count_json}
use Rattle.strategy_text.proofs.Listing.{written-more, written-all}
use Rattle.strategy_text.proofs.writing.cells.Goals as goal

pub loop-value-preserved : goal.loop-value-preserved
loop-value-preserved c =
    let hidden = c.args.hidden.now in
    let i = c.loop-value.value-index in
    let here : slice_get (map cell_in hidden) i ≡ Some c.cell.result = slice_get-map cell_in hidden i ∙ ap (option_map cell_in) (slice_get-get_or hidden i (value.Bool false) c.loop-value-test.true) ∙ ap Some (sym c.cell.ensures) in
    rw c.in_ok-push.ensures.items (written-more count_json c.loop-value.list.items c.from.result (map cell_in hidden) i c.cell.result here c.loop-value.invariant c.from.ensures)

pub returns : goal.returns
returns c =
    let hidden = c.args.hidden.now in
    let past : length (map cell_in hidden) ≤ c.loop-value.value-index = omega (arith, length-map hidden cell_in, c.loop-value-test.false) in
    written-all count_json c.loop-value.list (map cell_in hidden) c.loop-value.value-index past c.loop-value.invariant
