use Rattle.std.proofs.Common.{◌≡◌, drop, map}
use Rattle.spectra_resolved.specs.Reports.{found_in}
use Rattle.spectra_resolved.specs.Spaces.{no_names}
use Rattle.spectra_resolved.specs.SpaceViews.{with_entries}
use Rattle.spectra_resolved.specs.Tables.{told}
use Rattle.spectra_items.specs.ItemViews.{entry_data}
use Rattle.spectra_items.proofs.spaces.table_of.Given as goal

-- what is left is the answer
abbrev pub invariant-loop-entry : goal.invariant-loop-entry
invariant-loop-entry l =
    with_entries (told l.table l.findings) (map entry_data (drop l.entry-index l.entries))
    ≡ with_entries (record { look = no_names; found = found_in l.fn.findings }) (map entry_data l.entries)
