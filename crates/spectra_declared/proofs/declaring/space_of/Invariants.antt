use Rattle.std.proofs.Common.{◌≡◌, drop, map}
use Rattle.spectra_resolved.specs.Reports.{found_in}
use Rattle.spectra_resolved.specs.Spaces.{no_names}
use Rattle.spectra_resolved.specs.SpaceViews.{with_entries}
use Rattle.spectra_resolved.specs.Tables.{told}
use Rattle.spectra_resolved.specs.EnumViews.{names_in}
use Rattle.spectra_declared.specs.ItemViews.{filed_data}
use Rattle.spectra_declared.specs.Declarations.{entries_from, entries}
use Rattle.spectra_declared.proofs.declaring.space_of.Given as goal

-- what is left is the answer
abbrev pub invariant-loop-filed : goal.invariant-loop-filed
invariant-loop-filed l =
    with_entries (told l.table l.findings) (entries_from l.space (names_in l.enums) l.counts (map filed_data (drop l.filed-index l.items)))
    ≡ with_entries (record { look = no_names; found = found_in l.fn.findings }) (entries l.space (names_in l.enums) (map filed_data l.items))
