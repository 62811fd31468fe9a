use Rattle.std.proofs.Common.{◌≡◌, ◌++◌, drop, map}
use Rattle.spectra_trees.specs.Views.{item_data}
use Rattle.spectra_declared.specs.ItemViews.{filed_data}
use Rattle.spectra_declared.proofs.items.add_items.Given as goal

-- those so far and those that are left are all
abbrev pub invariant-loop-item : goal.invariant-loop-item
invariant-loop-item l =
    map filed_data l.all.items ++ map (λ i. (l.file, i)) (map item_data (drop l.item-index l.items)) ≡ map filed_data l.fn.all.items ++ map (λ i. (l.file, i)) (map item_data l.items)
