use Rattle.std.proofs.Common.{◌≡◌, ◌++◌, drop, map}
use Rattle.spectra_trees.specs.Views.{name_data}
use Rattle.spectra_resolved.specs.LookViews.{scope_data}
use Rattle.spectra_items.specs.Types.{enum_number}
use Rattle.spectra_items.proofs.types.numbers.Given as goal

-- those so far and those of what is left are all
abbrev pub invariant-loop-name : goal.invariant-loop-name
invariant-loop-name l =
    l.numbers.items ++ map (enum_number (scope_data l.scope)) (map name_data (drop l.name-index l.names)) ≡ map (enum_number (scope_data l.scope)) (map name_data l.names)
