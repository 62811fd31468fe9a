-- The bits of planes.
use Rattle.std.proofs.Common.{◌≡◌, ◌==◌, ℕ, zero, suc, ◌-◌, ◌*◌, ◌/◌, ◌%◌, ◌<◌, ◌≤◌, Bool, false, not, ◌&&◌, ◌||◌, min, max, List, length, map, get_or, bit_and, bit_or, refl, sym, ap, ◌∙◌, arith, inl, inr, ◌⊎◌, w64}
use Rattle.std.specs.Int.{bit_at, bit_not}
use Rattle.std.specs.Simd.Lanes.{zip2}
use Rattle.std.proofs.lemmas.Simd.{length-zip2, get_or-zip2}
use Rattle.std.proofs.lemmas.List.{get_or-map, get_or_past}
use Rattle.std.proofs.lemmas.Nat.Bits.{bit_at-lt, bit_at-zero, bit_at_and, bit_at_or, bit_at_not}
use Rattle.column_planes.specs.Planes.{bit_in}

both_one : (m n : ℕ) → m < 2 → n < 2 → (min m n == 1) ≡ ((m == 1) && (n == 1))
both_one zero zero a b = refl
both_one zero (suc zero) a b = refl
both_one (suc zero) zero a b = refl
both_one (suc zero) (suc zero) a b = refl
both_one zero (suc (suc n)) a b = absurd (omega arith)
both_one (suc zero) (suc (suc n)) a b = absurd (omega arith)
both_one (suc (suc m)) n a b = absurd (omega arith)

some_one : (m n : ℕ) → m < 2 → n < 2 → (max m n == 1) ≡ ((m == 1) || (n == 1))
some_one zero zero a b = refl
some_one zero (suc zero) a b = refl
some_one (suc zero) zero a b = refl
some_one (suc zero) (suc zero) a b = refl
some_one zero (suc (suc n)) a b = absurd (omega arith)
some_one (suc zero) (suc (suc n)) a b = absurd (omega arith)
some_one (suc (suc m)) n a b = absurd (omega arith)

none_one : (m : ℕ) → m < 2 → (1 - m == 1) ≡ not (m == 1)
none_one zero a = refl
none_one (suc zero) a = refl
none_one (suc (suc m)) a = absurd (omega arith)

abbrev bit : ℕ → ℕ → Bool
bit word i = bit_at word i == 1

pub bit_of_and : (x y i : ℕ) → bit (bit_and x y) i ≡ (bit x i && bit y i)
bit_of_and x y i = ap (λ n. n == 1) (bit_at_and x y i) ∙ both_one (bit_at x i) (bit_at y i) (bit_at-lt x i) (bit_at-lt y i)

pub bit_of_or : (x y i : ℕ) → bit (bit_or x y) i ≡ (bit x i || bit y i)
bit_of_or x y i = ap (λ n. n == 1) (bit_at_or x y i) ∙ some_one (bit_at x i) (bit_at y i) (bit_at-lt x i) (bit_at-lt y i)

pub bit_of_not : (x i : ℕ) → x < 18446744073709551616 → i < 64 → bit (bit_not w64 x) i ≡ not (bit x i)
bit_of_not x i fits below = ap (λ n. n == 1) (bit_at_not w64 x i fits below) ∙ none_one (bit_at x i) (bit_at-lt x i)

-- past the last word each bit is 0
past_end : (words : List ℕ) (i : ℕ) → length words ≤ i / 64 → bit_in words i ≡ false
past_end words i over = ap (λ w. bit w (i % 64)) (get_or_past words (i / 64) 0 over) ∙ ap (λ n. n == 1) (bit_at-zero (i % 64))

below_or_past : (i n : ℕ) → (i < n) ⊎ (n ≤ i)
below_or_past i n = grind arith

module _ (f : ℕ → ℕ → ℕ) (g : Bool → Bool → Bool) (each : (x y i : ℕ) → bit (f x y) i ≡ g (bit x i) (bit y i)) (none : g false false ≡ false) (a b : List ℕ) (same : length b ≡ length a) where
  pub bits_of_both : (i : ℕ) → bit_in (zip2 f a b) i ≡ g (bit_in a i) (bit_in b i)
  bits_of_both i =
      elim (below_or_past (i / 64) (length a)) [
        | inl below ↦ ap (λ w. bit w (i % 64)) (get_or-zip2 f a b (i / 64) 0 0 0 below (omega (arith, same, below))) ∙ each (get_or a (i / 64) 0) (get_or b (i / 64) 0) (i % 64)
        | inr past ↦ past_end (zip2 f a b) i (let long = length-zip2 f a b (sym same) in omega (arith, long, past))
            ∙ (sym none ∙ (ap (λ x. g x false) (sym (past_end a i past)) ∙ ap (g (bit_in a i)) (sym (past_end b i (omega (arith, same, past))))))
      ]

pub bits_of_not : (a : List ℕ) → ((k : ℕ) → k < length a → get_or a k 0 < 18446744073709551616) → (i : ℕ) → i < 64 * length a → bit_in (map (bit_not w64) a) i ≡ not (bit_in a i)
bits_of_not a fits i below =
    let word : i / 64 < length a = omega (arith, below) in
    ap (λ w. bit w (i % 64)) (get_or-map (bit_not w64) a (i / 64) 0 0 word) ∙ bit_of_not (get_or a (i / 64) 0) (i % 64) (fits (i / 64) word) (omega arith)
