use Rattle.std.proofs.Common.{◌++◌, ◌∷◌, [], ◌∙◌, ℕ, List, ap, sym, arith}
use Rattle.std.specs.List.{range_with_len}
use Rattle.std.proofs.lemmas.List.{length-map}
use Rattle.spec_model.specs.GameViews.{hidden_data}
use Rattle.spec_order.proofs.SlotLemmas.{range-next}
use Rattle.spec_order.proofs.slots.table_slots.Goals as goal

pub loop-table-preserved : goal.loop-table-preserved
loop-table-preserved c =
    let table = c.loop-table.table in
    c.in_ok-push.ensures.items ∙ (ap (λ (xs : List ℕ). xs ++ table ∷ []) c.loop-table.invariant ∙ sym (range-next table))

pub returns : goal.returns
returns c =
    let hidden = c.args.game.now.hidden.items in
    let tables = length-map hidden hidden_data in
    c.loop-table.invariant ∙ ap (range_with_len 0) (omega (arith, tables, c.len-table-end.ensures, c.loop-table.auto, c.loop-table-test.false))
