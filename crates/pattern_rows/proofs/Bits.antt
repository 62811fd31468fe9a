-- The bits of words.
use Rattle.std.proofs.Common.{◌≡◌, ◌==◌, ℕ, zero, suc, ◌-◌, ◌<◌, not, ◌&&◌, ◌||◌, min, max, bit_and, bit_or, refl, ap, ◌∙◌, arith, w64}
use Rattle.std.specs.Int.{bit_at, bit_not}
use Rattle.std.proofs.lemmas.Nat.Bits.{bit_at-lt, bit_at-zero, bit_at_ones, bit_at_and, bit_at_or, bit_at_not}
use Rattle.pattern_rows.specs.Wides.{bit}

both_one : (m n : ℕ) → m < 2 → n < 2 → (min m n == 1) ≡ ((m == 1) && (n == 1))
both_one zero zero a b = refl
both_one zero (suc zero) a b = refl
both_one (suc zero) zero a b = refl
both_one (suc zero) (suc zero) a b = refl
both_one zero (suc (suc n)) a b = absurd (omega arith)
both_one (suc zero) (suc (suc n)) a b = absurd (omega arith)
both_one (suc (suc m)) n a b = absurd (omega arith)

some_one : (m n : ℕ) → m < 2 → n < 2 → (max m n == 1) ≡ ((m == 1) || (n == 1))
some_one zero zero a b = refl
some_one zero (suc zero) a b = refl
some_one (suc zero) zero a b = refl
some_one (suc zero) (suc zero) a b = refl
some_one zero (suc (suc n)) a b = absurd (omega arith)
some_one (suc zero) (suc (suc n)) a b = absurd (omega arith)
some_one (suc (suc m)) n a b = absurd (omega arith)

none_one : (m : ℕ) → m < 2 → (1 - m == 1) ≡ not (m == 1)
none_one zero a = refl
none_one (suc zero) a = refl
none_one (suc (suc m)) a = absurd (omega arith)

pub bit-and : (x y i : ℕ) → bit (bit_and x y) i ≡ (bit x i && bit y i)
bit-and x y i = ap (λ n. n == 1) (bit_at_and x y i) ∙ both_one (bit_at x i) (bit_at y i) (bit_at-lt x i) (bit_at-lt y i)

pub bit-or : (x y i : ℕ) → bit (bit_or x y) i ≡ (bit x i || bit y i)
bit-or x y i = ap (λ n. n == 1) (bit_at_or x y i) ∙ some_one (bit_at x i) (bit_at y i) (bit_at-lt x i) (bit_at-lt y i)

pub bit-not : (x i : ℕ) → x < 18446744073709551616 → i < 64 → bit (bit_not w64 x) i ≡ not (bit x i)
bit-not x i fits below = ap (λ n. n == 1) (bit_at_not w64 x i fits below) ∙ none_one (bit_at x i) (bit_at-lt x i)

pub bit-ones : (i : ℕ) → i < 64 → bit 18446744073709551615 i ≡ (1 == 1)
bit-ones i below = ap (λ n. n == 1) (bit_at_ones 64 i below)

pub bit-none : (i : ℕ) → bit 0 i ≡ (0 == 1)
bit-none i = ap (λ n. n == 1) (bit_at-zero i)
