-- Lists of levels.
use Rattle.std.proofs.Common.{◌≡◌, ◌⊎◌, inl, inr, ℕ, zero, suc, ◌==◌, Bool, true, false, ◌||◌, List, [], ◌∷◌, ◌++◌, take, drop, refl, sym, ◌∙◌, ap, subst}
use Rattle.std.proofs.lemmas.Bool.{false≢true, or_cases}
use Rattle.spec_model.specs.Diagrams.{Function}
use Rattle.bdd_ops.specs.Functions.{is_among}
use Rattle.bdd_ops.specs.Reading.{Ignores}
use Rattle.bdd_products.specs.Products.{IgnoresAll}

pub or_assoc : (a b c : Bool) → (a || (b || c)) ≡ ((a || b) || c)
or_assoc true b c = refl
or_assoc false b c = refl

pub or_swapped : (a b : Bool) → (a || b) ≡ (b || a)
or_swapped true true = refl
or_swapped true false = refl
or_swapped false true = refl
or_swapped false false = refl

pub or_left : (a b : Bool) → a ≡ true → (a || b) ≡ true
or_left true b e = refl
or_left false b e = absurd (false≢true e)

pub or_right : (a b : Bool) → b ≡ true → (a || b) ≡ true
or_right true b e = refl
or_right false b e = e

-- a level of two lists together
pub is_among-both : (m : ℕ) (xs ys : List ℕ) → is_among m (xs ++ ys) ≡ (is_among m xs || is_among m ys)
is_among-both m [] ys = refl
is_among-both m (x ∷ xs) ys = ap (λ b. (m == x) || b) (is_among-both m xs ys) ∙ or_assoc (m == x) (is_among m xs) (is_among m ys)

-- a level of a list is one of its front or of its back
pub among_parts : (k m : ℕ) (xs : List ℕ) → is_among m xs ≡ (is_among m (take k xs) || is_among m (drop k xs))
among_parts zero m [] = refl
among_parts zero m (x ∷ xs) = refl
among_parts (suc k) m [] = refl
among_parts (suc k) m (x ∷ xs) = ap (λ b. (m == x) || b) (among_parts k m xs) ∙ or_assoc (m == x) (is_among m (take k xs)) (is_among m (drop k xs))

-- ---- levels parted

or_moved : (a b c : Bool) → ((a || c) || b) ≡ ((a || b) || c)
or_moved true b c = refl
or_moved false true true = refl
or_moved false true false = refl
or_moved false false true = refl
or_moved false false false = refl

-- all of them come to the second list
pub parted_second : (own before levels : List ℕ) (m : ℕ) → (is_among m own || is_among m (before ++ levels)) ≡ ((is_among m own || is_among m before) || is_among m levels)
parted_second own before levels m = ap (λ b. is_among m own || b) (is_among-both m before levels) ∙ or_assoc (is_among m own) (is_among m before) (is_among m levels)

-- or to the first
pub parted_first : (own before levels : List ℕ) (m : ℕ) → (is_among m (own ++ levels) || is_among m before) ≡ ((is_among m own || is_among m before) || is_among m levels)
parted_first own before levels m = ap (λ b. b || is_among m before) (is_among-both m own levels) ∙ or_moved (is_among m own) (is_among m before) (is_among m levels)

-- its front, and then its back
pub parted_halves : (before mid after : Bool) (levels front back : List ℕ) (k m : ℕ) → front ≡ take k levels → back ≡ drop k levels → mid ≡ (before || is_among m front) → after ≡ (mid || is_among m back) → after ≡ (before || is_among m levels)
parted_halves before mid after levels front back k m front_is back_is first second =
    let all = among_parts k m levels ∙ (ap (λ xs. is_among m xs || is_among m (drop k levels)) (sym front_is) ∙ ap (λ xs. is_among m front || is_among m xs) (sym back_is)) in
    second ∙ (ap (λ b. b || is_among m back) first ∙ (sym (or_assoc before (is_among m front) (is_among m back)) ∙ ap (λ b. before || b) (sym all)))

pub ignored_all : (before levels : List ℕ) (f : Function) → IgnoresAll levels f → (m : ℕ) → is_among m (before ++ levels) ≡ true → (is_among m before ≡ true) ⊎ Ignores m f
ignored_all before levels f ignores m among =
    elim (or_cases (is_among m before) (is_among m levels) (sym (is_among-both m before levels) ∙ among)) [
      | inl was ↦ inl was
      | inr is ↦ inr (ignores m is)
    ]

pub ignored_halves : (before mid after : List ℕ) (f f' g : Function) → f' ≡ f → g ≡ f → ((m : ℕ) → is_among m mid ≡ true → (is_among m before ≡ true) ⊎ Ignores m f') →
    ((m : ℕ) → is_among m after ≡ true → (is_among m mid ≡ true) ⊎ Ignores m g) → (m : ℕ) → is_among m after ≡ true → (is_among m before ≡ true) ⊎ Ignores m f
ignored_halves before mid after f f' g same' same first second m among =
    elim (second m among) [
      | inl was ↦ elim (first m was) [
        | inl earlier ↦ inl earlier
        | inr is ↦ inr (subst (λ (h : Function). Ignores m h) same' is)
      ]
      | inr is ↦ inr (subst (λ (h : Function). Ignores m h) same is)
    ]
