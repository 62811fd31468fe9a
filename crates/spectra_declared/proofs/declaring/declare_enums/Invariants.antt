use Rattle.std.proofs.Common.{◌≡◌, drop, map}
use Rattle.spectra_resolved.specs.SpaceViews.{with_entries}
use Rattle.spectra_resolved.specs.Tables.{told}
use Rattle.spectra_resolved.specs.EnumViews.{names_in}
use Rattle.spectra_declared.specs.MentionViews.{names_data}
use Rattle.spectra_declared.specs.Declarations.{enum_entry}
use Rattle.spectra_declared.proofs.declaring.declare_enums.Given as goal

-- what is left is the answer
abbrev pub invariant-loop-name : goal.invariant-loop-name
invariant-loop-name l =
    with_entries (told l.table l.findings) (map (enum_entry (names_in l.enums) l.file) (names_data (drop l.name-index l.names)))
    ≡ with_entries (told l.fn.table l.fn.findings) (map (enum_entry (names_in l.enums) l.file) (names_data l.names))
