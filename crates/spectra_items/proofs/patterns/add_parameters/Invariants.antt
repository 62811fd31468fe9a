use Rattle.std.proofs.Common.{◌≡◌, ◌++◌, drop, map}
use Rattle.spectra_trees.specs.Views.{name_data}
use Rattle.spectra_resolved.specs.declared.tree.Leaf.TheVariants as leaves
use Rattle.spectra_items.specs.ItemViews.{entry_data}
use Rattle.spectra_items.specs.Meanings.{by_place}
use Rattle.spectra_items.proofs.patterns.add_parameters.Given as goal

-- those so far and those of what is left are all
abbrev pub invariant-loop-place : goal.invariant-loop-place
invariant-loop-place l =
    map entry_data l.entries.items ++ by_place leaves.Parameter l.file l.place (map name_data (drop l.place l.params))
    ≡ map entry_data l.fn.entries.items ++ by_place leaves.Parameter l.file 0 (map name_data l.params)
