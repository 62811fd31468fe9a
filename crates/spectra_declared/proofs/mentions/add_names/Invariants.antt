use Rattle.std.proofs.Common.{◌≡◌, ◌++◌, drop, map}
use Rattle.spectra_trees.specs.Views.{name_data}
use Rattle.spectra_declared.specs.MentionViews.{names_data}
use Rattle.spectra_declared.proofs.mentions.add_names.Given as goal

-- those so far and those that are left are all
abbrev pub invariant-loop-name : goal.invariant-loop-name
invariant-loop-name l = names_data l.all.items ++ map name_data (drop l.name-index l.names) ≡ names_data l.fn.all.items ++ map name_data l.names
