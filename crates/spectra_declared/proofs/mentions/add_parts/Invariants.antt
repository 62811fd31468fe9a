use Rattle.std.proofs.Common.{◌≡◌, ◌++◌, drop, map, flat_map}
use Rattle.spectra_trees.specs.Views.{part_data}
use Rattle.spectra_declared.specs.Items.{part_enum_names}
use Rattle.spectra_declared.specs.MentionViews.{names_data}
use Rattle.spectra_declared.proofs.mentions.add_parts.Given as goal

-- those so far and those that are left are all
abbrev pub invariant-loop-part : goal.invariant-loop-part
invariant-loop-part l =
    names_data l.all.items ++ flat_map part_enum_names (map part_data (drop l.part-index l.parts)) ≡ names_data l.fn.all.items ++ flat_map part_enum_names (map part_data l.parts)
