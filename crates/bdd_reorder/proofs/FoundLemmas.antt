-- Flags of numbers.
use Rattle.std.proofs.Common.{◌≡◌, ◌≢◌, ◌⊎◌, inl, inr, ℕ, ◌<◌, ◌≤◌, Bool, true, false, List, [], ◌∷◌, ◌++◌, length, slice_index_or, slice_set, sym, ◌∙◌, subst}
use Rattle.std.specs.List.{Contains}
use Rattle.std.proofs.lemmas.Bool.{false≢true, cases_eq}
use Rattle.std.proofs.lemmas.List.{get_or_past, get_or-set_same, get_or-set_other}
use Rattle.std.proofs.lemmas.List.Elements.{Contains-append_left, Contains-append_cases, Contains-push}
use Rattle.bdd_reorder.specs.Searching.{AreMarked}
use Rattle.bdd_reorder.proofs.ElementLemmas.{first_or_later, none_in}

-- a number past the flags isn't among them
pub not_past : {E : Type 0} (seen : List Bool) (ns : List ℕ) (n : ℕ) → AreMarked seen ns → length seen ≤ n → Contains ns n → E
not_past seen ns n marked past there = absurd (false≢true (sym (get_or_past seen n false past) ∙ (marked n).1 there))

module _ (seen wide : List Bool) (ns : List ℕ) (place : ℕ) (marked : AreMarked seen ns) (same : (n : ℕ) → slice_index_or wide n false ≡ slice_index_or seen n false) (within : place < length wide) where
  to_list : (n : ℕ) → (n ≡ place) ⊎ (n ≢ place) → slice_index_or (slice_set wide place true) n false ≡ true → Contains (ns ++ place ∷ []) n
  to_list n (inl is) flag = subst (Contains (ns ++ place ∷ [])) (sym is) (Contains-push ns place)
  to_list n (inr other) flag = Contains-append_left ns (place ∷ []) n ((marked n).0 (sym (same n) ∙ (sym (get_or-set_other wide place n true false other) ∙ flag)))

  old_flag : (n : ℕ) → (n ≡ place) ⊎ (n ≢ place) → Contains ns n → slice_index_or (slice_set wide place true) n false ≡ true
  old_flag n (inl is) there = subst (λ (k : ℕ). slice_index_or (slice_set wide place true) k false ≡ true) (sym is) (get_or-set_same wide place true false within)
  old_flag n (inr other) there = get_or-set_other wide place n true false other ∙ (same n ∙ (marked n).1 there)

  from_list : (n : ℕ) → Contains ns n ⊎ Contains (place ∷ []) n → slice_index_or (slice_set wide place true) n false ≡ true
  from_list n (inl before) = old_flag n (cases_eq n place) before
  from_list n (inr last) = elim (first_or_later place n [] last) [
    | inl is ↦ subst (λ (k : ℕ). slice_index_or (slice_set wide place true) k false ≡ true) is (get_or-set_same wide place true false within)
    | inr none ↦ none_in n none
  ]

  -- one number more, with its flag
  pub marked_more : AreMarked (slice_set wide place true) (ns ++ place ∷ [])
  marked_more n = (to_list n (cases_eq n place), λ there. from_list n (Contains-append_cases ns (place ∷ []) n there))
