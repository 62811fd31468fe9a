-- The end of a loop over a list.
use Rattle.std.proofs.Common.{◌≡◌, List, [], ◌++◌, flat_map, Option, sym, ap, ◌∙◌, append-nil}
use Rattle.spectra_resolved.specs.declared.findings.Finding.{Finding}
use Rattle.spectra_resolved.specs.Findings.{with_faults}

-- where nothing is left, what is there is all
pub list_end : {A B : Type 0} (g : A → List B) (left : List A) (before all : List B) → left ≡ [] → before ++ flat_map g left ≡ all → before ≡ all
list_end g left before all none inv = sym (append-nil before) ∙ ap (λ xs. before ++ flat_map g xs) (sym none) ∙ inv

-- and so is what was found
pub found_end : {A : Type 0} (g : A → List Finding) (left : List A) (found all : Option Finding) → left ≡ [] → with_faults found (flat_map g left) ≡ all → found ≡ all
found_end g left found all none inv = ap (λ xs. with_faults found (flat_map g xs)) (sym none) ∙ inv
