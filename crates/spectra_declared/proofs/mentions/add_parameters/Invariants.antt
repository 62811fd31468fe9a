use Rattle.std.proofs.Common.{◌≡◌, ◌++◌, drop, map, flat_map}
use Rattle.spectra_trees.specs.Data.{TypeData, NameData}
use Rattle.spectra_trees.specs.Views.{name_data, type_data}
use Rattle.spectra_resolved.specs.Enums.{enum_names}
use Rattle.spectra_declared.specs.MentionViews.{names_data}
use Rattle.spectra_declared.proofs.mentions.add_parameters.Given as goal

-- those so far and those that are left are all
abbrev pub invariant-loop-param : goal.invariant-loop-param
invariant-loop-param l =
    names_data l.all.items ++ flat_map (λ (a : TypeData × NameData). enum_names a.0) (map (λ a. (type_data a.0, name_data a.1)) (drop l.param-index l.params))
    ≡ names_data l.fn.all.items ++ flat_map (λ (a : TypeData × NameData). enum_names a.0) (map (λ a. (type_data a.0, name_data a.1)) l.params)
