use Rattle.std.proofs.Common.{◌≡◌, ◌+◌, ◌∷◌, map, drop, sym, ap, ◌∙◌, add-one, drop-cons}
use Rattle.spectra_trees.specs.Views.{item_data}
use Rattle.spectra_resolved.specs.SpaceViews.{with_entries}
use Rattle.spectra_resolved.specs.Tables.{told}
use Rattle.spectra_resolved.specs.EnumViews.{names_in}
use Rattle.spectra_declared.specs.ItemViews.{filed_data}
use Rattle.spectra_declared.specs.Declarations.{counted, entries_of, entries_from}
use Rattle.spectra_items.proofs.Told.{with_entries_append}
use Rattle.spectra_declared.proofs.declaring.space_of.Goals as goal

pub loop-filed-preserved : goal.loop-filed-preserved
loop-filed-preserved c =
    let items = c.args.items.now in
    let i = c.loop-filed.filed-index in
    let filed = c.filed-item.result in
    let space = c.args.space in
    let enums = names_in c.args.enums.now in
    let counts = c.loop-filed.counts in
    let before = told c.loop-filed.table c.loop-filed.findings in
    let left = map filed_data (drop (i + 1) items) in
    let own = entries_of space enums counts (filed_data filed) in
    let rest : drop i items ≡ filed ∷ drop (i + 1) items = drop-cons items i filed c.loop-filed-test.true ∙ (λ j. sym c.filed-item.is j ∷ drop (sym (add-one i) j) items) in
    ap (λ t. with_entries t (entries_from space enums c.in_ok-counts.counts left)) c.in_ok-declare_item.ensures
    ∙ ap (λ k. with_entries (with_entries before own) (entries_from space enums k left)) c.in_ok-counts.ensures
    ∙ sym (with_entries_append before own (entries_from space enums (counted counts (item_data filed.item.now)) left))
    ∙ ap (λ xs. with_entries before (entries_from space enums counts (map filed_data xs))) (sym rest)
    ∙ c.loop-filed.invariant
