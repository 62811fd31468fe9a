-- One step of a loop over a list.
use Rattle.std.proofs.Common.{◌≡◌, inl, inr, ℕ, ◌+◌, ◌<◌, List, ◌++◌, length, map, flat_map, drop, get_or, Option, Some, sym, ap, ◌∙◌, arith}
use Rattle.std.specs.Prelude.{slice_get, option_map}
use Rattle.std.proofs.lemmas.Option.{slice_get-map, slice_get_cases}
use Rattle.spectra_resolved.specs.declared.findings.Finding.{Finding}
use Rattle.spectra_resolved.specs.Findings.{with_faults}
use Rattle.spectra_resolved.proofs.First.{with_faults_append, three_lists}
use Rattle.spectra_judge.proofs.Lists.{mapped_left}

-- the faults of one more are found
pub found_step : {X Y : Type 0} (see : X → Y) (g : Y → List Finding) (xs : List X) (k : ℕ) (x : X) (found after all : Option Finding)
    → k < length xs → x ≡ get_or xs k x → after ≡ with_faults found (g (see x)) → with_faults found (flat_map g (map see (drop k xs))) ≡ all
    → with_faults after (flat_map g (map see (drop (k + 1) xs))) ≡ all
found_step see g xs k x found after all below is more inv =
    ap (λ f. with_faults f (flat_map g (map see (drop (k + 1) xs)))) more
    ∙ sym (with_faults_append found (g (see x)) (flat_map g (map see (drop (k + 1) xs))))
    ∙ ap (λ ys. with_faults found (flat_map g ys)) (sym (mapped_left see xs k x below is))
    ∙ inv

-- the same by numbers
pub numbered_step : {X Y : Type 0} (see : X → Y) (g : Y → List Finding) (xs : List X) (k : ℕ) (found after all : Option Finding)
    → k < length xs → ((y : Y) → slice_get (map see xs) k ≡ Some y → after ≡ with_faults found (g y)) → with_faults found (flat_map g (map see (drop k xs))) ≡ all
    → with_faults after (flat_map g (map see (drop (k + 1) xs))) ≡ all
numbered_step see g xs k found after all below more inv = elim ((slice_get_cases xs k).1) [
  | inl there ↦ found_step see g xs k there.0 found after all below (sym there.3) (more (see there.0) (slice_get-map see xs k ∙ ap (option_map see) there.2)) inv
  | inr past ↦ let ge = past.0 in absurd (omega arith)
]

pub four_lists : (found : Option Finding) (fs gs hs js : List Finding) → with_faults found (fs ++ (gs ++ (hs ++ js))) ≡ with_faults (with_faults (with_faults (with_faults found fs) gs) hs) js
four_lists found fs gs hs js = three_lists found fs gs (hs ++ js) ∙ with_faults_append (with_faults (with_faults found fs) gs) hs js
