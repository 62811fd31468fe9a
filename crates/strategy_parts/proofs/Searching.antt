-- The first of several assignments that passes a test.
use Rattle.std.proofs.Common.{◌≡◌, ℕ, Bool, true, false, ◌||◌, ◌==◌, cond, List, [], ◌∷◌, find, Some, None, refl, ap, ◌∙◌}
use Rattle.std.specs.List.{list_any}
use Rattle.std.proofs.lemmas.Bool.{eqb-true}
use Rattle.spec_model.proofs.AllStates.{Every}

-- tests that agree on each element find the same
pub find-same : {X : Type 0} (p q : X → Bool) (xs : List X) → Every (λ x. p x ≡ q x) xs → find p xs ≡ find q xs
find-same p q [] each = refl
find-same p q (x ∷ xs) each = ap (λ b. cond b (Some x) (find p xs)) each.0 ∙ ap (cond (q x) (Some x)) (find-same p q xs each.1)

pub every_from : {X : Type 0} (P Q : X → Type 0) → ((x : X) → P x → Q x) → (xs : List X) → Every P xs → Every Q xs
every_from P Q f [] each = tt
every_from P Q f (x ∷ xs) each = (f x each.0, every_from P Q f xs each.1)

-- where no element passes, none is found
pub none_found : {X : Type 0} (p : X → Bool) (xs : List X) → (list_any p xs ≡ true → ⊥) → find p xs ≡ None
none_found p [] none = refl
none_found p (x ∷ xs) none = at (p x) none (none_found p xs)
  where
    at : (b : Bool) → ((b || list_any p xs) ≡ true → ⊥) → ((list_any p xs ≡ true → ⊥) → find p xs ≡ None) → cond b (Some x) (find p xs) ≡ None
    at true none rest = absurd (none refl)
    at false none rest = rest none

pub differs : (a b : ℕ) → (a ≡ b → ⊥) → (a == b) ≡ false
differs a b apart = at (a == b) refl
  where
    at : (d : Bool) → (a == b) ≡ d → d ≡ false
    at true e = absurd (apart (eqb-true a b e))
    at false e = refl
