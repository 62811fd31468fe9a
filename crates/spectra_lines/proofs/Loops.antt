-- One step of a loop over a list.
use Rattle.std.proofs.Common.{◌≡◌, List, [], ◌∷◌, ◌++◌, map, flat_map, Option, sym, ap, ◌∙◌, append_assoc}
use Rattle.spectra_resolved.specs.declared.findings.Finding.{Finding}
use Rattle.spectra_resolved.specs.Findings.{with_faults}
use Rattle.spectra_resolved.proofs.First.{with_faults_append}

-- what one more gives stands behind the rest
pub list_more : {A B : Type 0} (g : A → List B) (x : A) (left rest : List A) (old : List B) → left ≡ x ∷ rest → (old ++ g x) ++ flat_map g rest ≡ old ++ flat_map g left
list_more g x left rest old is = append_assoc old (g x) (flat_map g rest) ∙ ap (λ xs. old ++ flat_map g xs) (sym is)

pub map_more : {A B : Type 0} (g : A → B) (x : A) (left rest : List A) (old : List B) → left ≡ x ∷ rest → (old ++ g x ∷ []) ++ map g rest ≡ old ++ map g left
map_more g x left rest old is = append_assoc old (g x ∷ []) (map g rest) ∙ ap (λ xs. old ++ map g xs) (sym is)

-- and so do its faults
pub found_more : {A : Type 0} (g : A → List Finding) (x : A) (left rest : List A) (found : Option Finding) → left ≡ x ∷ rest
    → with_faults (with_faults found (g x)) (flat_map g rest) ≡ with_faults found (flat_map g left)
found_more g x left rest found is = sym (with_faults_append found (g x) (flat_map g rest)) ∙ ap (λ xs. with_faults found (flat_map g xs)) (sym is)
