-- What an expression gives: its kind, and the span of a whole-number expression.
use Rattle.std.specs.Prelude.{ℕ, suc, ◌^◌, ◌==◌, ℤ, pos, neg_ℤ, ◌+ℤ◌, ◌-ℤ◌, ◌*ℤ◌, int_lt, int_le, Bool, true, false, not, ◌||◌, if◌then◌else◌, List}
use Rattle.std.specs.List.{list_any}
use Rattle.std.specs.Int.{int_min, int_max, saturate_signed, w64}
use Rattle.spec_model.specs.Values.{same_names}

-- Truth values; whole numbers of an interval; whole numbers whose span isn't known; names of a list; one name, which fits
-- every list that it stands in; and what fits everything, as an unknown name does.
pub data Kind : Type 0 where
  Truth : Kind
  Whole : (low high : ℤ) → Kind
  SomeWhole : Kind
  NameOf : (names : List ℕ) → Kind
  OneName : (name : ℕ) → Kind
  Anything : Kind

abbrev pub is_truth : Kind → Bool
is_truth Truth = true
is_truth Anything = true
is_truth _ = false

abbrev pub is_whole : Kind → Bool
is_whole (Whole low high) = true
is_whole SomeWhole = true
is_whole Anything = true
is_whole _ = false

-- Whether `=` compares the two, and whether a parameter of the one kind takes an argument of the other. Two names are not
-- compared with each other.
abbrev pub can_equal : Kind → Kind → Bool
can_equal Anything k = true
can_equal k Anything = true
can_equal Truth Truth = true
can_equal (Whole a b) k = is_whole k
can_equal SomeWhole k = is_whole k
can_equal (NameOf names) (NameOf others) = same_names names others
can_equal (NameOf names) (OneName name) = list_any (λ other. other == name) names
can_equal (OneName name) (NameOf names) = list_any (λ other. other == name) names
can_equal _ _ = false

-- ---- spans

-- An end past 64 bits is capped at the nearest number of 64 bits. Every such end is faulty.
abbrev pub capped : ℤ → ℤ
capped z = saturate_signed w64 z

-- an end outside -10^12 to 10^12
abbrev pub is_far : ℤ → Bool
is_far z = int_lt z (neg_ℤ (pos (10 ^ 12))) || int_lt (pos (10 ^ 12)) z

-- a span with a far end, or with more than 4,096 numbers
abbrev pub is_wide : Kind → Bool
is_wide (Whole low high) = is_far low || (is_far high || not (int_lt (high -ℤ low) (pos 4096)))
is_wide _ = false

-- A span that isn't within the numbers of so many elements. Of a span that isn't known, and of an array whose length isn't,
-- nothing is said.
abbrev pub is_outside : ℕ → Kind → Bool
is_outside (suc n) (Whole low high) = int_lt low (pos 0) || not (int_le high (pos n))
is_outside _ _ = false

-- the least interval with all sums, differences and products of the ends
abbrev pub added : Kind → Kind → Kind
added (Whole a b) (Whole c d) = Whole (capped (a +ℤ c)) (capped (b +ℤ d))
added _ _ = SomeWhole

abbrev pub subtracted : Kind → Kind → Kind
subtracted (Whole a b) (Whole c d) = Whole (capped (a -ℤ d)) (capped (b -ℤ c))
subtracted _ _ = SomeWhole

abbrev pub least_of : ℤ → ℤ → ℤ → ℤ → ℤ
least_of p q r s = int_min (int_min p q) (int_min r s)

abbrev pub greatest_of : ℤ → ℤ → ℤ → ℤ → ℤ
greatest_of p q r s = int_max (int_max p q) (int_max r s)

abbrev pub multiplied : Kind → Kind → Kind
multiplied (Whole a b) (Whole c d) =
    Whole (least_of (capped (a *ℤ c)) (capped (a *ℤ d)) (capped (b *ℤ c)) (capped (b *ℤ d))) (greatest_of (capped (a *ℤ c)) (capped (a *ℤ d)) (capped (b *ℤ c)) (capped (b *ℤ d)))
multiplied _ _ = SomeWhole

-- from 0 to n - 1, whatever is divided
abbrev pub reduced : ℤ → Kind
reduced n = if int_lt (pos 0) n then Whole (pos 0) (n -ℤ pos 1) else SomeWhole
