use Rattle.std.proofs.Common.{◌≡◌, ◌++◌, drop, map}
use Rattle.spectra_trees.specs.Views.{name_data}
use Rattle.spectra_items.specs.ItemViews.{entry_data}
use Rattle.spectra_items.specs.Types.{plain_entries}
use Rattle.spectra_items.proofs.types.plain_entries.Given as goal

-- those so far and those of what is left are all
abbrev pub invariant-loop-name : goal.invariant-loop-name
invariant-loop-name l =
    map entry_data l.entries.items ++ plain_entries l.file (map name_data (drop l.name-index l.names)) ≡ plain_entries l.file (map name_data l.names)
