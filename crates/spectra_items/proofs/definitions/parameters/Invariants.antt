use Rattle.std.proofs.Common.{◌≡◌, ◌++◌, drop, map}
use Rattle.spectra_resolved.specs.declared.tree.Leaf.TheVariants as leaves
use Rattle.spectra_items.specs.ItemViews.{entry_data, parameters_data}
use Rattle.spectra_items.specs.Meanings.{by_place, parameter_entries}
use Rattle.spectra_items.proofs.definitions.parameters.Given as goal

-- those so far and those of what is left are all
abbrev pub invariant-loop-place : goal.invariant-loop-place
invariant-loop-place l =
    map entry_data l.entries.items ++ by_place leaves.Parameter l.file l.place (map (λ a. a.1) (parameters_data (drop l.place l.params)))
    ≡ parameter_entries l.file (parameters_data l.params)
