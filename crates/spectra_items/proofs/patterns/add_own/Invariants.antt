use Rattle.std.proofs.Common.{◌≡◌, ◌≤◌, ◌++◌, drop, map, flat_map}
use Rattle.spectra_trees.specs.Views.{part_data}
use Rattle.spectra_resolved.specs.declared.tree.Leaf.TheVariants as leaves
use Rattle.spectra_items.specs.ItemViews.{entry_data}
use Rattle.spectra_items.specs.Meanings.{by_place, own_names}
use Rattle.spectra_items.proofs.patterns.add_own.Given as goal

-- those so far and those of what is left are all
abbrev pub invariant-loop-part : goal.invariant-loop-part
invariant-loop-part l = record {
  same : map entry_data l.entries.items ++ by_place leaves.Own l.file l.number (flat_map own_names (map part_data (drop l.part-index l.parts)))
      ≡ map entry_data l.fn.entries.items ++ by_place leaves.Own l.file 0 (flat_map own_names (map part_data l.parts));
  within : l.number ≤ l.part-index;
}
