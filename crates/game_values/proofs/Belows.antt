-- Tests over the numbers below one.
use Rattle.std.proofs.Common.{◌≡◌, ℕ, zero, suc, ◌<◌, Bool, true, false, not, ◌||◌, List, [], ◌∷◌, ◌++◌, refl, ◌∙◌, ap, subst, arith, ◌⊎◌, inl, inr}
use Rattle.std.specs.List.{list_any}
use Rattle.std.specs.Bool.{beq}
use Rattle.spec_model.specs.Steps.{below}

any-append : {X : Type 0} (p : X → Bool) (xs ys : List X) → list_any p (xs ++ ys) ≡ (list_any p xs || list_any p ys)
any-append p [] ys = refl
any-append p (x ∷ xs) ys = ap (λ b. p x || b) (any-append p xs ys) ∙ assoc (p x)
  where
    assoc : (b : Bool) → (b || (list_any p xs || list_any p ys)) ≡ ((b || list_any p xs) || list_any p ys)
    assoc true = refl
    assoc false = refl

pub any_below : (p : ℕ → Bool) (n i : ℕ) → i < n → p i ≡ true → list_any p (below n) ≡ true
any_below p zero i h e = absurd (omega arith)
any_below p (suc n) i h e = any-append p (below n) (n ∷ []) ∙ by_cases less_or_last (λ less. any_below p n i less e)
  where
    less_or_last : (i < n) ⊎ (i ≡ n)
    less_or_last = grind arith

    from_right : (a : Bool) {b : Bool} → b ≡ true → (a || b) ≡ true
    from_right true e = refl
    from_right false e = e

    by_cases : (i < n) ⊎ (i ≡ n) → (i < n → list_any p (below n) ≡ true) → (list_any p (below n) || (p n || false)) ≡ true
    by_cases (inl less) earlier = ap (λ b. b || (p n || false)) (earlier less)
    by_cases (inr last) earlier = from_right (list_any p (below n)) (ap (λ b. b || false) (subst (λ k. p k ≡ true) last e))

pub differs : (a b : Bool) → (a ≡ b → ⊥) → not (beq a b) ≡ true
differs true true other = absurd (other refl)
differs false false other = absurd (other refl)
differs true false other = refl
differs false true other = refl
