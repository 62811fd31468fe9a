-- A formula's number is within its span, and so fits 64 bits.
use Rattle.std.proofs.Common.{◌≡◌, ℕ, suc, ◌^◌, ◌≤◌, ℤ, pos, negsuc, neg_ℤ, ◌+ℤ◌, ◌-ℤ◌, ◌*ℤ◌, ◌≤ℤ◌, ◌<ℤ◌, Bool, true, false, ◌&&◌, if◌then◌else◌, Option, Some, None, is_some, refl, arith, w64}
use Rattle.std.specs.Prelude.{int_le, int_lt, FitsSigned}
use Rattle.std.specs.Int.{int_min, int_max, int_rem_euclid}
use Rattle.std.proofs.lemmas.Int.{ints, clamps}
use Rattle.std.proofs.lemmas.Bool.{false≢true}
use Rattle.std.proofs.Math.Nat.{mul-le-mul_right}
use Rattle.std.proofs.Math.IntN.{pos-*ℤ-pos, negsuc-*ℤ-pos, *ℤ-negsuc, *ℤ_comm}
use Rattle.spec_model.specs.declared.value.Value.{Value}
use Rattle.spec_model.specs.declared.value.Value.TheVariants as value
use Rattle.spec_model.specs.Values.{number_of}
use Rattle.spec_model.specs.Typing.{Kind, Whole, whole, summed, subtracted, multiplied, reduced}

-- ---- products

times_up : (x b : ℤ) (n : ℕ) → x ≤ℤ b → (x *ℤ pos n) ≤ℤ (b *ℤ pos n)
times_up (pos x) (pos b) n h = let k : x ≤ b = omega (arith, ints) in rw (pos-*ℤ-pos x n, pos-*ℤ-pos b n) (omega (arith, ints, mul-le-mul_right n k))
times_up (negsuc x) (pos b) n h = rw (negsuc-*ℤ-pos x n, pos-*ℤ-pos b n) (omega (arith, ints))
times_up (pos x) (negsuc b) n h = absurd (omega (arith, ints))
times_up (negsuc x) (negsuc b) n h = let k : suc b ≤ suc x = omega (arith, ints) in rw (negsuc-*ℤ-pos x n, negsuc-*ℤ-pos b n) (omega (arith, ints, mul-le-mul_right n k))

-- a product is between those of the ends
pub times_between : (a b x y : ℤ) → a ≤ℤ x → x ≤ℤ b → (int_min (a *ℤ y) (b *ℤ y) ≤ℤ (x *ℤ y)) × ((x *ℤ y) ≤ℤ int_max (a *ℤ y) (b *ℤ y))
times_between a b x (pos n) low high = let l = times_up a x n low in let h = times_up x b n high in (omega (arith, ints, clamps), omega (arith, ints, clamps))
times_between a b x (negsuc n) low high =
    let l = times_up a x (suc n) low in let h = times_up x b (suc n) high in
    rw (*ℤ-negsuc a n, *ℤ-negsuc b n, *ℤ-negsuc x n) (omega (arith, ints, clamps), omega (arith, ints, clamps))

times_between' : (c d x y : ℤ) → c ≤ℤ y → y ≤ℤ d → (int_min (x *ℤ c) (x *ℤ d) ≤ℤ (x *ℤ y)) × ((x *ℤ y) ≤ℤ int_max (x *ℤ c) (x *ℤ d))
times_between' c d x y low high = rw (*ℤ_comm x c, *ℤ_comm x d, *ℤ_comm x y) (times_between c d y x low high)

pub product_within : (a b c d x y : ℤ) → a ≤ℤ x → x ≤ℤ b → c ≤ℤ y → y ≤ℤ d →
    (int_min (int_min (a *ℤ c) (a *ℤ d)) (int_min (b *ℤ c) (b *ℤ d)) ≤ℤ (x *ℤ y)) × ((x *ℤ y) ≤ℤ int_max (int_max (a *ℤ c) (a *ℤ d)) (int_max (b *ℤ c) (b *ℤ d)))
product_within a b c d x y low high low' high' =
    let outer = times_between a b x y low high in
    let at_a = times_between' c d a y low' high' in
    let at_b = times_between' c d b y low' high' in
    (omega (arith, ints, clamps, outer.0, at_a.0, at_b.0), omega (arith, ints, clamps, outer.1, at_a.1, at_b.1))

-- ---- spans

-- where the kind is an interval, the number is within it
abbrev pub IsWithin : Option Kind → Value → Type 0
IsWithin (Some (Whole lo hi)) v = (lo ≤ℤ number_of v) × (number_of v ≤ℤ hi)
IsWithin _ v = Unit {0}

pub within_whole : (lo hi z : ℤ) → lo ≤ℤ z → z ≤ℤ hi → IsWithin (whole lo hi) (value.Int z)
within_whole lo hi z low high = at (int_le (neg_ℤ (pos (10 ^ 12))) lo && int_le hi (pos (10 ^ 12)) && int_lt (hi -ℤ lo) (pos 4096))
  where
    at : (b : Bool) → IsWithin (if b then Some (Whole lo hi) else None) (value.Int z)
    at true = (low, high)
    at false = tt

pub fits_whole : (lo hi z : ℤ) → lo ≤ℤ z → z ≤ℤ hi → is_some (whole lo hi) ≡ true → FitsSigned w64 z
fits_whole lo hi z low high e = at (int_le (neg_ℤ (pos (10 ^ 12))) lo) (int_le hi (pos (10 ^ 12))) (int_lt (hi -ℤ lo) (pos 4096)) refl refl e
  where
    at : (p q r : Bool) → int_le (neg_ℤ (pos (10 ^ 12))) lo ≡ p → int_le hi (pos (10 ^ 12)) ≡ q → is_some (if p && q && r then Some (Whole lo hi) else None) ≡ true → FitsSigned w64 z
    at true true true is_low is_high e = grind (arith, ints)
    at false q r is_low is_high e = absurd (false≢true e)
    at true false r is_low is_high e = absurd (false≢true e)
    at true true false is_low is_high e = absurd (false≢true e)

-- ---- the operators

pub within_sum : (p q : Option Kind) (x y : Value) → IsWithin p x → IsWithin q y → IsWithin (summed p q) (value.Int (number_of x +ℤ number_of y))
within_sum (Some (Whole a b)) (Some (Whole c d)) x y h k = within_whole (a +ℤ c) (b +ℤ d) (number_of x +ℤ number_of y) (omega (arith, ints, h.0, k.0)) (omega (arith, ints, h.1, k.1))
within_sum _ _ x y h k = tt

pub within_difference : (p q : Option Kind) (x y : Value) → IsWithin p x → IsWithin q y → IsWithin (subtracted p q) (value.Int (number_of x -ℤ number_of y))
within_difference (Some (Whole a b)) (Some (Whole c d)) x y h k = within_whole (a -ℤ d) (b -ℤ c) (number_of x -ℤ number_of y) (omega (arith, ints, h.0, k.1)) (omega (arith, ints, h.1, k.0))
within_difference _ _ x y h k = tt

pub within_product : (p q : Option Kind) (x y : Value) → IsWithin p x → IsWithin q y → IsWithin (multiplied p q) (value.Int (number_of x *ℤ number_of y))
within_product (Some (Whole a b)) (Some (Whole c d)) x y h k = let is = product_within a b c d (number_of x) (number_of y) h.0 h.1 k.0 k.1 in within_whole _ _ (number_of x *ℤ number_of y) is.0 is.1
within_product _ _ x y h k = tt

pub fits_sum : (p q : Option Kind) (x y : Value) → IsWithin p x → IsWithin q y → is_some (summed p q) ≡ true → FitsSigned w64 (number_of x +ℤ number_of y)
fits_sum (Some (Whole a b)) (Some (Whole c d)) x y h k e = fits_whole (a +ℤ c) (b +ℤ d) (number_of x +ℤ number_of y) (omega (arith, ints, h.0, k.0)) (omega (arith, ints, h.1, k.1)) e
fits_sum _ _ x y h k e = absurd (false≢true e)

pub fits_difference : (p q : Option Kind) (x y : Value) → IsWithin p x → IsWithin q y → is_some (subtracted p q) ≡ true → FitsSigned w64 (number_of x -ℤ number_of y)
fits_difference (Some (Whole a b)) (Some (Whole c d)) x y h k e = fits_whole (a -ℤ d) (b -ℤ c) (number_of x -ℤ number_of y) (omega (arith, ints, h.0, k.1)) (omega (arith, ints, h.1, k.0)) e
fits_difference _ _ x y h k e = absurd (false≢true e)

pub fits_product : (p q : Option Kind) (x y : Value) → IsWithin p x → IsWithin q y → is_some (multiplied p q) ≡ true → FitsSigned w64 (number_of x *ℤ number_of y)
fits_product (Some (Whole a b)) (Some (Whole c d)) x y h k e = let is = product_within a b c d (number_of x) (number_of y) h.0 h.1 k.0 k.1 in fits_whole _ _ (number_of x *ℤ number_of y) is.0 is.1 e
fits_product _ _ x y h k e = absurd (false≢true e)

unsigned_below : (n : ℕ) (z : ℤ) → pos 0 <ℤ pos n → (pos 0 ≤ℤ int_rem_euclid z (pos n)) × (int_rem_euclid z (pos n) ≤ℤ (pos n -ℤ pos 1))
unsigned_below n (pos a) h = (omega (arith, ints), omega (arith, ints))
unsigned_below n (negsuc a) h = (omega (arith, ints), omega (arith, ints))

pub within_remainder : (p : Option Kind) (n : ℤ) (x : Value) → IsWithin (reduced p n) (value.Int (int_rem_euclid (number_of x) n))
within_remainder (Some (Whole a b)) (pos n) x = at (int_lt (pos 0) (pos n)) refl
  where
    at : (t : Bool) → int_lt (pos 0) (pos n) ≡ t → IsWithin (if t then whole (pos 0) (pos n -ℤ pos 1) else None) (value.Int (int_rem_euclid (number_of x) (pos n)))
    at true e = let positive : pos 0 <ℤ pos n = grind (arith, ints) in let is = unsigned_below n (number_of x) positive in within_whole (pos 0) (pos n -ℤ pos 1) (int_rem_euclid (number_of x) (pos n)) is.0 is.1
    at false e = tt
within_remainder (Some (Whole a b)) (negsuc n) x = tt
within_remainder _ n x = tt
