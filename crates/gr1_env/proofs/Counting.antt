-- The greatest of several numbers, and how many iterates layers have.
use Rattle.std.proofs.Common.{◌≡◌, ℕ, zero, suc, ◌+◌, ◌<◌, ◌≤◌, List, [], ◌∷◌, map, length, get_or, slice_get, take, max, Option, Some, None, MatchOption, ap, ◌∙◌, refl, subst, arith}
use Rattle.gr1_law.specs.EnvLayers.{most}
use Rattle.gr1_env.specs.Solved.{greatest}

pub past_sum : (a b s : ℕ) → (a + b < 18446744073709551616 → ⊥) → a + b ≤ s → 18446744073709551615 < s
past_sum a b s past within = grind (arith, past, within)

pub greatest-next : {X : Type 0} (count : X → ℕ) (xs : List X) (i : ℕ) (d : X) → i < length xs → greatest count (take (suc i) xs) ≡ max (greatest count (take i xs)) (count (get_or xs i d))
greatest-next count [] i d before = absurd (omega (arith, before))
greatest-next count (x ∷ xs) zero d before = omega arith
greatest-next count (x ∷ xs) (suc i) d before = let rest = greatest-next count xs i d (omega (arith, before)) in omega (arith, rest)

pub greatest-at : {X : Type 0} (count : X → ℕ) (xs : List X) (i : ℕ) (d : X) → i < length xs → count (get_or xs i d) ≤ greatest count xs
greatest-at count [] i d before = absurd (omega (arith, before))
greatest-at count (x ∷ xs) zero d before = omega arith
greatest-at count (x ∷ xs) (suc i) d before = let rest = greatest-at count xs i d (omega (arith, before)) in omega (arith, rest)

most-front : (f : ℕ → ℕ) (k : ℕ) → most f (suc k) ≡ max (f 0) (most (λ i. f (suc i)) k)
most-front f zero = omega arith
most-front f (suc k) = let rest = most-front f k in omega (arith, rest)

pub most_is : {X : Type 0} (count : X → ℕ) (xs : List X) (f : ℕ → ℕ) → ((i : ℕ) (x : X) → slice_get xs i ≡ Some x → f i ≡ count x) → most f (length xs) ≡ greatest count xs
most_is count [] f each = refl
most_is count (x ∷ xs) f each =
    let rest = most_is count xs (λ i. f (suc i)) (λ i y is. each (suc i) y is) in
    let first : f 0 ≡ count x = each 0 x refl in
    let counted : length (x ∷ xs) ≡ suc (length xs) = omega arith in
    ap (most f) counted ∙ (most-front f (length xs) ∙ (ap (λ n. max n (most (λ i. f (suc i)) (length xs))) first ∙ ap (λ n. max (count x) n) rest))

-- ---- one of several

pub there_at : {X : Type 0} (xs : List X) (i : ℕ) → i < length xs → (x : X) × (slice_get xs i ≡ Some x)
there_at [] i before = absurd (omega (arith, before))
there_at (x ∷ xs) zero before = (x, refl)
there_at (x ∷ xs) (suc i) before = there_at xs i (omega (arith, before))

pub mapped_at : {X Y : Type 0} (f : X → Y) (d : Y) (xs : List X) (i : ℕ) (x : X) → slice_get xs i ≡ Some x → get_or (map f xs) i d ≡ f x
mapped_at f d [] i x is = cc
mapped_at f d (y ∷ xs) zero x is = let same : y ≡ x = cc in ap f same
mapped_at f d (y ∷ xs) (suc i) x is = mapped_at f d xs i x is

pub past_match : {n : ℕ} (o : Option ℕ) → o ≡ None → MatchOption o (18446744073709551615 < n) (λ m. m ≡ n) → 18446744073709551615 < n
past_match {n} o none is = subst (λ (p : Option ℕ). MatchOption p (18446744073709551615 < n) (λ m. m ≡ n)) none is
