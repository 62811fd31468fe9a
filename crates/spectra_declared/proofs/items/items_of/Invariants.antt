use Rattle.std.proofs.Common.{◌≡◌, ◌++◌, drop, map}
use Rattle.spectra_trees.specs.Views.{tree_data}
use Rattle.spectra_declared.specs.Items.{items_from}
use Rattle.spectra_declared.specs.ItemViews.{filed_data}
use Rattle.spectra_declared.proofs.items.items_of.Given as goal

-- those so far and those of the files that are left are all
abbrev pub invariant-loop-file : goal.invariant-loop-file
invariant-loop-file l = map filed_data l.all.items ++ items_from l.file (map tree_data (drop l.file l.trees)) ≡ items_from 0 (map tree_data l.trees)
