use Rattle.std.proofs.Common.{◌≡◌, drop, map}
use Rattle.std.specs.List.{list_all}
use Rattle.spectra_trees.specs.Data.{NameData}
use Rattle.spectra_trees.specs.Views.{name_data}
use Rattle.spectra_resolved.specs.LookViews.{scope_data}
use Rattle.spectra_items.specs.Types.{is_enum}
use Rattle.spectra_items.proofs.types.are_enums.Given as goal

-- what is left is the answer
abbrev pub invariant-loop-name : goal.invariant-loop-name
invariant-loop-name l =
    list_all (λ (n : NameData). is_enum ((scope_data l.scope).values n.text)) (map name_data (drop l.name-index l.names))
    ≡ list_all (λ (n : NameData). is_enum ((scope_data l.scope).values n.text)) (map name_data l.names)
