-- Which elements are read where an index is one of an element.
use Rattle.std.proofs.Common.{◌≡◌, ℕ, zero, suc, ◌+◌, ◌<◌, ◌≤◌, min, ℤ, pos, negsuc, nat_abs, Bool, true, false, not, ◌&&◌, if◌then◌else◌, refl, sym, ap, arith}
use Rattle.std.specs.Prelude.{int_le, int_lt}
use Rattle.std.proofs.lemmas.Bool.{false≢true, or_parts, and_parts}
use Rattle.std.proofs.lemmas.Int.{ints}
use Rattle.spectra_judge.specs.Kinds.{Kind, Truth, Whole, SomeWhole, NameOf, OneName, Anything, is_outside}
use Rattle.spectra_cases.specs.Formulas.{Reading, One, Here, Outside, element, by_array, reading_of}

-- the variable of an element of so many
pub record IsElement (first count variable : ℕ) : Type 0 where
  pub number : ℕ
  pub inside : number < count
  pub same : variable ≡ first + number

-- the one that is read is an element, and those that are read where they stand are truth values
abbrev pub IsRead : (array : Kind) → (first count : ℕ) → Reading → Type 0
IsRead array first n (One v) = IsElement first n v
IsRead array first n Here = array ≡ Truth
IsRead array first n Outside = Unit {0}

by_array_read : (array : Kind) (first n : ℕ) → IsRead array first n (by_array array)
by_array_read Truth first n = refl
by_array_read (Whole low high) first n = tt
by_array_read SomeWhole first n = tt
by_array_read (NameOf names) first n = tt
by_array_read (OneName name) first n = tt
by_array_read Anything first n = tt

below : (low high : ℤ) (n : ℕ) → int_lt low (pos 0) ≡ false → int_le low high ≡ true → int_le high (pos n) ≡ true → nat_abs low ≤ n
below (pos k) (pos j) n from to end = grind (arith, ints)
below (pos k) (negsuc j) n from to end = grind (arith, ints)
below (negsuc k) high n from to end = absurd (false≢true (sym from))

element_is : (first : ℕ) (z : ℤ) → int_lt z (pos 0) ≡ false → element first z ≡ first + min (nat_abs z) 255
element_is first z e = ap (λ b. if b then first else first + min (nat_abs z) 255) e

pub is_read : (array : Kind) (first n : ℕ) (index : Kind) → 0 < n → is_outside n index ≡ false → IsRead array first n (reading_of array first n index)
is_read array first zero index some inside = absurd (omega arith)
is_read array first (suc n) (Whole low high) some inside = by (int_le low high && int_le high low) refl
  where
    parts : (int_lt low (pos 0) ≡ false) × (not (int_le high (pos n)) ≡ false)
    parts = or_parts (int_lt low (pos 0)) (not (int_le high (pos n))) inside

    ends : int_le high (pos n) ≡ true
    ends = holds (int_le high (pos n)) parts.1
      where
        holds : (b : Bool) → not b ≡ false → b ≡ true
        holds true e = refl
        holds false e = absurd (false≢true (sym e))

    by : (one : Bool) → (int_le low high && int_le high low) ≡ one → IsRead array first (suc n) (if one then One (element first low) else by_array array)
    by true e =
        let few = below low high n parts.0 (and_parts (int_le low high) (int_le high low) e).0 ends in
        record { number = min (nat_abs low) 255; inside = omega arith; same = element_is first low parts.0 }
    by false e = by_array_read array first (suc n)
is_read array first (suc n) Truth some inside = by_array_read array first (suc n)
is_read array first (suc n) SomeWhole some inside = by_array_read array first (suc n)
is_read array first (suc n) (NameOf names) some inside = by_array_read array first (suc n)
is_read array first (suc n) (OneName name) some inside = by_array_read array first (suc n)
is_read array first (suc n) Anything some inside = by_array_read array first (suc n)
