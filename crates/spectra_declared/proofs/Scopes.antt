-- What the spaces of names are, and the faults that were found with them.
use Rattle.std.proofs.Common.{[], ◌≡◌, ℕ, List, Option, sym, ap, ◌∙◌}
use Rattle.spectra_resolved.specs.declared.findings.Finding.{Finding}
use Rattle.spectra_declared.specs.declared.declaring.Space.{Space}
use Rattle.spectra_declared.specs.declared.declaring.Space.TheVariants as spaces
use Rattle.spectra_resolved.specs.Findings.{with_faults}
use Rattle.spectra_resolved.specs.Spaces.{declared, clashes}
use Rattle.spectra_resolved.specs.SpaceViews.{Told, with_entries}
use Rattle.spectra_declared.specs.Items.{FiledItem}
use Rattle.spectra_declared.specs.Declarations.{enums_in, entries, names_past, scope_faults}
use Rattle.spectra_resolved.proofs.First.{with_faults_append}
use Rattle.spectra_items.proofs.Told.{start, first_look, first_found}

-- what is told of one space behind none
pub space_look : (t : Told) (space : Space) (enums : List (List ℕ)) (items : List FiledItem) (found : Option Finding)
    → t ≡ with_entries (start found) (entries space enums items) → enums ≡ enums_in items → t.look ≡ declared (entries space (enums_in items) items)
space_look t space enums items found is are =
    ap (λ (u : Told). u.look) is ∙ first_look found (entries space enums items) ∙ ap (λ es. declared (entries space es items)) are

pub space_found : (t : Told) (space : Space) (enums : List (List ℕ)) (items : List FiledItem) (found : Option Finding)
    → t ≡ with_entries (start found) (entries space enums items) → enums ≡ enums_in items → t.found ≡ with_faults found (clashes (entries space (enums_in items) items))
space_found t space enums items found is are =
    ap (λ (u : Told). u.found) is ∙ first_found found (entries space enums items) ∙ ap (λ es. with_faults found (clashes (entries space es items))) are

-- the faults of four spaces and of a limit, one after another
pub four_spaces : (found : Option Finding) (items : List FiledItem)
    → with_faults (with_faults (with_faults (with_faults (with_faults found (names_past 65_535 [] items))
    (clashes (entries spaces.Values (enums_in items) items))) (clashes (entries spaces.Types (enums_in items) items)))
    (clashes (entries spaces.Patterns (enums_in items) items))) (clashes (entries spaces.Lines (enums_in items) items))
    ≡ with_faults found (scope_faults items)
four_spaces found items = sym (simp with_faults_append)
