-- What is remembered at each position, and what is noted of it, where there is one position more.
use Rattle.std.proofs.Common.{◌≡◌, ℕ, zero, suc, ◌<◌, ◌==◌, Bool, if◌then◌else◌, List, [], ◌∷◌, ◌++◌, Some, length, slice_get, refl, ap, arith}
use borrow.Author.Tests.{eq-eqb, ne_eqb}

module _ {X : Type 0} where
  -- the values of a function, but for one number
  pub with_last : (ℕ → X) → ℕ → X → ℕ → X
  with_last f n x t = if t == n then x else f t

  pub with_last-here : (f : ℕ → X) (n : ℕ) (x : X) → with_last f n x n ≡ x
  unfolding with_last
  with_last-here f n x = ap (λ (b : Bool). if b then x else f n) (eq-eqb n n refl)

  pub with_last-before : (f : ℕ → X) (n : ℕ) (x : X) (t : ℕ) → t < n → with_last f n x t ≡ f t
  unfolding with_last
  with_last-before f n x t below = ap (λ (b : Bool). if b then x else f t) (ne_eqb t n (λ same. omega arith))

  pub slice_get-earlier : (xs : List X) (x : X) (t : ℕ) → t < length xs → slice_get (xs ++ x ∷ []) t ≡ slice_get xs t
  slice_get-earlier [] x t below = absurd (omega arith)
  slice_get-earlier (y ∷ xs) x zero below = refl
  slice_get-earlier (y ∷ xs) x (suc t) below = slice_get-earlier xs x t (omega arith)

  pub slice_get-last : (xs : List X) (x : X) → slice_get (xs ++ x ∷ []) (length xs) ≡ Some x
  slice_get-last [] x = refl
  slice_get-last (y ∷ xs) x = slice_get-last xs x
