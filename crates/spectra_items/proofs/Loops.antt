-- One step of a loop over a list.
use Rattle.std.proofs.Common.{◌≡◌, List, [], ◌∷◌, ◌++◌, map, flat_map, Option, sym, ap, ◌∙◌, append_assoc, append-nil}
use Rattle.spectra_resolved.specs.declared.findings.Finding.{Finding}
use Rattle.spectra_resolved.specs.Findings.{with_faults}
use Rattle.spectra_resolved.proofs.First.{with_faults_append}

-- what one more thing gives stands behind the rest
pub list_step : {A B : Type 0} (g : A → List B) (x : A) (left rest : List A) (before after all : List B)
    → left ≡ x ∷ rest → after ≡ before ++ g x → before ++ flat_map g left ≡ all → after ++ flat_map g rest ≡ all
list_step g x left rest before after all is more inv =
    ap (λ xs. xs ++ flat_map g rest) more ∙ append_assoc before (g x) (flat_map g rest) ∙ ap (λ xs. before ++ flat_map g xs) (sym is) ∙ inv

-- and so does one thing
pub map_step : {A B : Type 0} (g : A → B) (x : A) (left rest : List A) (before after all : List B)
    → left ≡ x ∷ rest → after ≡ before ++ g x ∷ [] → before ++ map g left ≡ all → after ++ map g rest ≡ all
map_step g x left rest before after all is more inv =
    ap (λ xs. xs ++ map g rest) more ∙ append_assoc before (g x ∷ []) (map g rest) ∙ ap (λ xs. before ++ map g xs) (sym is) ∙ inv

-- and so do its faults
pub found_step : {A : Type 0} (g : A → List Finding) (x : A) (left rest : List A) (found after all : Option Finding)
    → left ≡ x ∷ rest → after ≡ with_faults found (g x) → with_faults found (flat_map g left) ≡ all → with_faults after (flat_map g rest) ≡ all
found_step g x left rest found after all is more inv =
    ap (λ f. with_faults f (flat_map g rest)) more ∙ sym (with_faults_append found (g x) (flat_map g rest)) ∙ ap (λ xs. with_faults found (flat_map g xs)) (sym is) ∙ inv

-- where nothing is added, all stays
pub nothing_more : {A B : Type 0} (view : A → B) (xs : List A) → map view xs ≡ map view xs ++ []
nothing_more view xs = sym (append-nil (map view xs))
