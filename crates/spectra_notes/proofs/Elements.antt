-- What is said of an array is said of each of its elements.
use Rattle.std.proofs.Common.{◌≡◌, ℕ, zero, suc, ◌+◌, ◌<◌, ◌≤◌, List, [], ◌∷◌, ◌++◌, length, map, flat_map, replicate, drop, get_or, refl, sym, ap, ◌∙◌, append_assoc, append-nil, add-one}
use Rattle.std.proofs.lemmas.List.{drop_all}
use Rattle.spectra_copies.proofs.Made.{left_at}

replicate-push : {Y : Type 0} (n : ℕ) (y : Y) → replicate n y ++ y ∷ [] ≡ replicate (suc n) y
replicate-push zero y = refl
replicate-push (suc n) y = ap (λ ys. y ∷ ys) (replicate-push n y)

-- one more behind so many
pub element_more : {Y : Type 0} (old done new : List Y) (n : ℕ) (y : Y) → done ≡ old ++ replicate n y → new ≡ done ++ y ∷ [] → new ≡ old ++ replicate (n + 1) y
element_more old done new n y before pushed =
    pushed
    ∙ ap (λ ys. ys ++ y ∷ []) before
    ∙ append_assoc old (replicate n y) (y ∷ [])
    ∙ ap (λ ys. old ++ ys) (replicate-push n y ∙ ap (λ m. replicate m y) (sym (add-one n)))

module _ {X Z Y : Type 0} (f : Z → List Y) (g : X → Z) (xs : List X) (k : ℕ) where
  -- those of one more, behind those so far
  pub array_more : (x : X) → k < length xs → x ≡ get_or xs k x → (done new all : List Y) → new ≡ done ++ f (g x) → done ++ flat_map f (map g (drop k xs)) ≡ all → new ++ flat_map f (map g (drop (k + 1) xs)) ≡ all
  array_more x below is done new all added so_far =
      ap (λ ys. ys ++ flat_map f (map g (drop (k + 1) xs))) added
      ∙ append_assoc done (f (g x)) (flat_map f (map g (drop (k + 1) xs)))
      ∙ ap (λ ys. done ++ flat_map f (map g ys)) (sym (left_at xs k x below is))
      ∙ so_far

  -- behind the last one
  pub arrays_all : length xs ≤ k → (done all : List Y) → done ++ flat_map f (map g (drop k xs)) ≡ all → done ≡ all
  arrays_all end done all so_far = sym (append-nil done) ∙ ap (λ ys. done ++ flat_map f (map g ys)) (sym (drop_all k xs end)) ∙ so_far
