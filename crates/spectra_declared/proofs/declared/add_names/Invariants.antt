use Rattle.std.proofs.Common.{◌≡◌, drop}
use Rattle.spectra_resolved.specs.Enums.{with_names}
use Rattle.spectra_resolved.specs.EnumViews.{names_in}
use Rattle.spectra_declared.specs.MentionViews.{names_data}
use Rattle.spectra_declared.proofs.declared.add_names.Given as goal

-- what is left is the answer
abbrev pub invariant-loop-name : goal.invariant-loop-name
invariant-loop-name l = with_names (names_in l.enums) (names_data (drop l.name-index l.names)) ≡ with_names (names_in l.fn.enums) (names_data l.names)
