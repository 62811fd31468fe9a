-- Numbers that count from 1, and lists of one number for each of several.
use Rattle.std.proofs.Common.{◌≡◌, ℕ, zero, suc, ◌-◌, ◌<◌, ◌≤◌, ◌⊎◌, inl, inr, max, nat_le, ◌==◌, Bool, true, false, if◌then◌else◌, List, [], ◌∷◌, ◌++◌, length, map, slice_index, Some, slice_get, refl, sym, ◌∙◌, ap, subst, arith}
use Rattle.std.proofs.lemmas.List.{length-map, map-append}
use borrow.Author.Tests.{eqb-true, eqb-false, leb-true, eq-eqb}
use Rattle.spec_model.specs.Steps.{below}
use Rattle.strategy_tables.specs.Tables.{turned}

pub length-below : (n : ℕ) → length (below n) ≡ n
length-below zero = refl
length-below (suc n) = push (below n) n ∙ ap suc (length-below n)
  where
    push : (xs : List ℕ) (x : ℕ) → length (xs ++ x ∷ []) ≡ suc (length xs)
    push [] x = refl
    push (y ∷ xs) x = ap suc (push xs x)

earlier : (xs : List ℕ) (x i : ℕ) → i < length xs → slice_index (xs ++ x ∷ []) i ≡ slice_index xs i
earlier [] x i inside = absurd (omega arith)
earlier (y ∷ xs) x zero inside = refl
earlier (y ∷ xs) x (suc i) inside = earlier xs x i (omega arith)

last : (xs : List ℕ) (x : ℕ) → slice_index (xs ++ x ∷ []) (length xs) ≡ x
last [] x = refl
last (y ∷ xs) x = last xs x

-- a function's values at the first numbers
pub at_number : (f : ℕ → ℕ) (n i : ℕ) → i < n → slice_index (map f (below n)) i ≡ f i
at_number f zero i inside = absurd (omega arith)
at_number f (suc n) i inside = ap (λ (xs : List ℕ). slice_index xs i) (map-append f (below n) (n ∷ [])) ∙ by_place earlier_or_last (λ less. at_number f n i less)
  where
    long : length (map f (below n)) ≡ n
    long = length-map (below n) f ∙ length-below n

    earlier_or_last : (i < n) ⊎ (i ≡ n)
    earlier_or_last = grind arith

    by_place : (i < n) ⊎ (i ≡ n) → (i < n → slice_index (map f (below n)) i ≡ f i) → slice_index (map f (below n) ++ f n ∷ []) i ≡ f i
    by_place (inl less) before = earlier (map f (below n)) (f n) i (omega (arith, less, long)) ∙ before less
    by_place (inr same) before =
        ap (slice_index (map f (below n) ++ f n ∷ [])) (same ∙ sym long)
        ∙ (last (map f (below n)) (f n)
        ∙ ap f (sym same))

pub length-at_numbers : (f : ℕ → ℕ) (n : ℕ) → length (map f (below n)) ≡ n
length-at_numbers f n = length-map (below n) f ∙ length-below n

pub le_true : (a b : ℕ) → nat_le a b ≡ true → a ≤ b
le_true a b e = leb-true a b e

-- the next number that counts from 1 is the next that counts from 0
pub turned-less : (count i : ℕ) → 1 ≤ i → turned count i - 1 ≡ (if suc (i - 1) == count then 0 else suc (i - 1))
turned-less count i some =
    let e : suc (i - 1) ≡ i = omega arith in
    at (i == count) ∙ ap (λ (j : ℕ). if j == count then 0 else j) (sym e)
  where
    at : (b : Bool) → (if b then 1 else suc i) - 1 ≡ (if b then 0 else i)
    at true = refl
    at false = omega arith
