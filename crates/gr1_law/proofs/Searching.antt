-- The least number and the first element that pass a test.
use Rattle.std.proofs.Common.{◌≡◌, ℕ, zero, suc, ◌<◌, Bool, true, false, ◌||◌, ◌⊎◌, inl, inr, List, [], ◌∷◌, Some, cond, find, refl, sym, ◌∙◌, subst, arith, IsTrue}
use Rattle.std.proofs.lemmas.Bool.{and_parts, or_left, or_right, false≢true}
use Rattle.std.specs.List.{list_any, list_all}
use Rattle.spec_model.proofs.AllStates.{Every}
use Rattle.gr1_law.specs.Layers.{IsLeastNumber}

-- ---- numbers

-- the least number that passes a test, if there is one below n
pub least_below : (test : ℕ → Bool) (n : ℕ) → ((k : ℕ) × (k < n) × IsLeastNumber (λ i. IsTrue (test i)) k) ⊎ ((i : ℕ) → i < n → test i ≡ false)
least_below test zero = inr (λ i below. absurd (omega arith))
least_below test (suc n) =
    elim (least_below test n) [
      | inl found ↦ inl (found.0, omega (arith, found.1), found.2)
      | inr none ↦ at (test n) refl none
    ]
  where
    at : (b : Bool) → test n ≡ b → ((i : ℕ) → i < n → test i ≡ false) → ((k : ℕ) × (k < suc n) × IsLeastNumber (λ i. IsTrue (test i)) k) ⊎ ((i : ℕ) → i < suc n → test i ≡ false)
    at true e none = inl (n, omega arith, record { here = e; none_before = λ i below holds. false≢true (sym (none i below) ∙ holds) })
    at false e none = inr (λ i below. earlier i (split i below))
      where
        split : (i : ℕ) → i < suc n → (i < n) ⊎ (i ≡ n)
        split i below = grind arith

        earlier : (i : ℕ) → (i < n) ⊎ (i ≡ n) → test i ≡ false
        earlier i (inl less) = none i less
        earlier i (inr is) = subst (λ (k : ℕ). test k ≡ false) (sym is) e

pub least_of : (test : ℕ → Bool) (n : ℕ) → test n ≡ true → (k : ℕ) × IsLeastNumber (λ i. IsTrue (test i)) k
least_of test n e =
    elim (least_below test (suc n)) [
      | inl found ↦ (found.0, found.2)
      | inr none ↦ absurd (false≢true (sym (none n (omega arith)) ∙ e))
    ]

-- the least number is no greater than any that passes
pub least_at_most : (holds : ℕ → Type 0) (k n : ℕ) → IsLeastNumber holds k → holds n → n < k → ⊥
least_at_most holds k n least e below = least.none_before n below e

-- ---- lists

module _ {X : Type 0} where
  pub find-passes : (p : X → Bool) (xs : List X) (x : X) → find p xs ≡ Some x → p x ≡ true
  find-passes p [] x e = absurd (cc)
  find-passes p (y ∷ ys) x e = at (p y) refl e (find-passes p ys x)
    where
      at : (b : Bool) → p y ≡ b → cond b (Some y) (find p ys) ≡ Some x → (find p ys ≡ Some x → p x ≡ true) → p x ≡ true
      at true e' is later = let same : y ≡ x = cc in subst (λ z. p z ≡ true) same e'
      at false e' is later = later is

  pub find-every : (P : X → Type 0) (p : X → Bool) (xs : List X) (x : X) → Every P xs → find p xs ≡ Some x → P x
  find-every P p [] x all e = absurd (cc)
  find-every P p (y ∷ ys) x all e = at (p y) e (find-every P p ys x all.1)
    where
      at : (b : Bool) → cond b (Some y) (find p ys) ≡ Some x → (find p ys ≡ Some x → P x) → P x
      at true is later = let same : y ≡ x = cc in subst P same all.0
      at false is later = later is

  -- what is found of one test and passes another shows that some element passes the other
  pub found-some : (p q : X → Bool) (xs : List X) (x : X) → find p xs ≡ Some x → q x ≡ true → list_any q xs ≡ true
  found-some p q [] x e here = absurd (cc)
  found-some p q (y ∷ ys) x e here = at (p y) e (λ later. found-some p q ys x later here)
    where
      at : (b : Bool) → cond b (Some y) (find p ys) ≡ Some x → (find p ys ≡ Some x → list_any q ys ≡ true) → (q y || list_any q ys) ≡ true
      at true is later = let same : y ≡ x = cc in or_left (q y) _ (subst (λ z. q z ≡ true) (sym same) here)
      at false is later = or_right (q y) _ (later is)

  pub some-found : (p : X → Bool) (xs : List X) → list_any p xs ≡ true → (x : X) × (find p xs ≡ Some x)
  some-found p [] e = absurd (false≢true e)
  some-found p (y ∷ ys) e = at (p y) e (some-found p ys)
    where
      at : (b : Bool) → (b || list_any p ys) ≡ true → (list_any p ys ≡ true → (x : X) × (find p ys ≡ Some x)) → (x : X) × (cond b (Some y) (find p ys) ≡ Some x)
      at true any later = (y, refl)
      at false any later = later any

  pub all-every : (p : X → Bool) (xs : List X) → list_all p xs ≡ true → Every (λ x. p x ≡ true) xs
  all-every p [] e = tt
  all-every p (y ∷ ys) e = let parts = and_parts (p y) (list_all p ys) e in (parts.0, all-every p ys parts.1)
