-- One step along a list of lists.
use Rattle.std.proofs.Common.{◌≡◌, ℕ, ◌+◌, ◌<◌, Bool, true, false, ◌&&◌, List, [], ◌∷◌, ◌++◌, length, map, flat_map, drop, get_or, sym, ap, ◌∙◌, subst, append_assoc}
use Rattle.std.specs.List.{list_all}
use Rattle.std.proofs.lemmas.Bool.{and_parts}
use Rattle.std.proofs.lemmas.List.{map-append}
use Rattle.game_values.proofs.Lists.{map_drop}

module _ {V X : Type 0} (data_of : V → X) (vs : List V) (k : ℕ) (v : V) (below : k < length vs) (is : v ≡ get_or vs k v) where
  pub rest_passes : (test : X → Bool) → list_all test (map data_of (drop k vs)) ≡ true → (test (data_of v) ≡ true) × (list_all test (map data_of (drop (k + 1) vs)) ≡ true)
  rest_passes test all = and_parts (test (data_of v)) (list_all test (map data_of (drop (k + 1) vs))) (subst (λ xs. list_all test xs ≡ true) (map_drop data_of vs k v below is) all)

  -- what was added, and what is left, make the whole
  pub added_part : {Y : Type 0} (f : X → List Y) (old new whole : List Y) → new ≡ old ++ f (data_of v) → old ++ flat_map f (map data_of (drop k vs)) ≡ whole → new ++ flat_map f (map data_of (drop (k + 1) vs)) ≡ whole
  added_part f old new whole more so_far =
      ap (λ ys. ys ++ flat_map f (map data_of (drop (k + 1) vs))) more
      ∙ (append_assoc old (f (data_of v)) (flat_map f (map data_of (drop (k + 1) vs))) ∙ (ap (λ xs. old ++ flat_map f xs) (sym (map_drop data_of vs k v below is)) ∙ so_far))

  pub added_one : {Y Z : Type 0} (g : Z → Y) (f : X → Y) (old new : List Z) (z : Z) (whole : List Y) → new ≡ old ++ z ∷ [] → g z ≡ f (data_of v) → map g old ++ map f (map data_of (drop k vs)) ≡ whole →
      map g new ++ map f (map data_of (drop (k + 1) vs)) ≡ whole
  added_one g f old new z whole more one so_far =
      ap (λ zs. map g zs ++ map f (map data_of (drop (k + 1) vs))) more
      ∙ (ap (λ ys. ys ++ map f (map data_of (drop (k + 1) vs))) (map-append g old (z ∷ []))
      ∙ (append_assoc (map g old) (g z ∷ []) (map f (map data_of (drop (k + 1) vs)))
      ∙ (ap (λ y. map g old ++ (y ∷ map f (map data_of (drop (k + 1) vs)))) one ∙ (ap (λ xs. map g old ++ map f xs) (sym (map_drop data_of vs k v below is)) ∙ so_far))))

  pub added_last : {Y : Type 0} (f : X → Y) (old new : List Y) (y : Y) (whole : List Y) → new ≡ old ++ y ∷ [] → y ≡ f (data_of v) → old ++ map f (map data_of (drop k vs)) ≡ whole → new ++ map f (map data_of (drop (k + 1) vs)) ≡ whole
  added_last f old new y whole more one so_far =
      ap (λ ys. ys ++ map f (map data_of (drop (k + 1) vs))) more
      ∙ (append_assoc old (y ∷ []) (map f (map data_of (drop (k + 1) vs)))
      ∙ (ap (λ z. old ++ (z ∷ map f (map data_of (drop (k + 1) vs)))) one ∙ (ap (λ xs. old ++ map f xs) (sym (map_drop data_of vs k v below is)) ∙ so_far)))

  -- whether each passes is told by those that are left
  pub rest_tells : (test : X → Bool) (whole : Bool) → test (data_of v) ≡ true → list_all test (map data_of (drop k vs)) ≡ whole → list_all test (map data_of (drop (k + 1) vs)) ≡ whole
  rest_tells test whole passes so_far = sym (ap (λ b. b && list_all test (map data_of (drop (k + 1) vs))) passes) ∙ (ap (λ xs. list_all test xs) (sym (map_drop data_of vs k v below is)) ∙ so_far)

  pub one_fails : (test : X → Bool) (whole : Bool) → test (data_of v) ≡ false → list_all test (map data_of (drop k vs)) ≡ whole → whole ≡ false
  one_fails test whole fails so_far = sym so_far ∙ (ap (λ xs. list_all test xs) (map_drop data_of vs k v below is) ∙ ap (λ b. b && list_all test (map data_of (drop (k + 1) vs))) fails)
