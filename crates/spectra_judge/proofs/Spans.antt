-- A span that isn't too wide is one of the formula's, and a number that is worth something is within its span.
use Rattle.std.proofs.Common.{◌≡◌, ◌^◌, ℤ, pos, negsuc, neg_ℤ, ◌+ℤ◌, ◌-ℤ◌, ◌*ℤ◌, ◌≤ℤ◌, ◌<ℤ◌, Bool, true, false, not, ◌&&◌, ◌||◌, if◌then◌else◌, Some, None, refl, sym, ◌∙◌, arith}
use Rattle.std.specs.Prelude.{int_le, int_lt}
use Rattle.std.proofs.lemmas.Int.{ints, clamps}
use Rattle.std.proofs.lemmas.Bool.{false≢true, or_parts, not-false}
use Rattle.spec_model.specs.Typing as model
use Rattle.spec_model.specs.Typing.{whole, summed}
use Rattle.spectra_judge.specs.Kinds.{Whole, capped, is_far, is_wide, added, subtracted, multiplied, least_of, greatest_of}

-- ---- ends

-- no further from 0 than 10^12
abbrev pub IsNear : ℤ → Type 0
IsNear z = (neg_ℤ (pos (10 ^ 12)) ≤ℤ z) × (z ≤ℤ pos (10 ^ 12))

pub near : (z : ℤ) → is_far z ≡ false → IsNear z
near z e =
    let parts = or_parts (int_lt z (neg_ℤ (pos (10 ^ 12)))) (int_lt (pos (10 ^ 12)) z) e in
    let low = parts.0 in
    let high = parts.1 in (grind (arith, ints), grind (arith, ints))

-- an end that is capped near is itself
pub capped-near : (z : ℤ) → IsNear (capped z) → capped z ≡ z
capped-near (pos n) is = let high = is.1 in omega (arith, ints)
capped-near (negsuc n) is = let low = is.0 in omega (arith, ints)

-- a span that isn't wide, by its ends
pub record IsNarrow (low high : ℤ) : Type 0 where
  pub low_near : IsNear low
  pub high_near : IsNear high
  pub close : (high -ℤ low) <ℤ pos 4096

pub narrow : (low high : ℤ) → is_wide (Whole low high) ≡ false → IsNarrow low high
narrow low high e =
    let parts = or_parts (is_far low) (is_far high || not (int_lt (high -ℤ low) (pos 4096))) e in
    let more = or_parts (is_far high) (not (int_lt (high -ℤ low) (pos 4096))) parts.1 in
    let is_close = not-false (int_lt (high -ℤ low) (pos 4096)) more.1 in
    record { low_near = near low parts.0; high_near = near high more.0; close = grind (arith, ints) }

-- the formula's span
pub whole-narrow : (low high : ℤ) → IsNarrow low high → whole low high ≡ Some (model.Whole low high)
whole-narrow low high is =
    let l = is.low_near.0 in
    let h = is.high_near.1 in
    let c = is.close in
    let a : int_le (neg_ℤ (pos (10 ^ 12))) low ≡ true = grind (arith, ints) in
    let b : int_le high (pos (10 ^ 12)) ≡ true = grind (arith, ints) in
    let d : int_lt (high -ℤ low) (pos 4096) ≡ true = grind (arith, ints) in
    by (int_le (neg_ℤ (pos (10 ^ 12))) low) (int_le high (pos (10 ^ 12))) (int_lt (high -ℤ low) (pos 4096)) a b d
  where
    by : (p q r : Bool) → p ≡ true → q ≡ true → r ≡ true → (if p && q && r then Some (model.Whole low high) else None) ≡ Some (model.Whole low high)
    by true true true a b c = refl
    by false q r a b c = absurd (false≢true a)
    by true false r a b c = absurd (false≢true b)
    by true true false a b c = absurd (false≢true c)

-- ---- the operators' spans

same_whole : (a b c d : ℤ) → a ≡ c → b ≡ d → IsNarrow c d → whole a b ≡ Some (model.Whole c d)
same_whole a b c d low high is = (λ i. whole (low i) (high i)) ∙ whole-narrow c d is

module _ (a b c d : ℤ) where
  pub sum_ends : is_wide (added (Whole a b) (Whole c d)) ≡ false → (capped (a +ℤ c) ≡ a +ℤ c) × (capped (b +ℤ d) ≡ b +ℤ d)
  sum_ends e = let is = narrow (capped (a +ℤ c)) (capped (b +ℤ d)) e in (capped-near (a +ℤ c) is.low_near, capped-near (b +ℤ d) is.high_near)

  pub sum_span : is_wide (added (Whole a b) (Whole c d)) ≡ false → summed (Some (model.Whole a b)) (Some (model.Whole c d)) ≡ Some (model.Whole (capped (a +ℤ c)) (capped (b +ℤ d)))
  sum_span e = let ends = sum_ends e in same_whole (a +ℤ c) (b +ℤ d) (capped (a +ℤ c)) (capped (b +ℤ d)) (sym ends.0) (sym ends.1) (narrow (capped (a +ℤ c)) (capped (b +ℤ d)) e)

  pub difference_ends : is_wide (subtracted (Whole a b) (Whole c d)) ≡ false → (capped (a -ℤ d) ≡ a -ℤ d) × (capped (b -ℤ c) ≡ b -ℤ c)
  difference_ends e = let is = narrow (capped (a -ℤ d)) (capped (b -ℤ c)) e in (capped-near (a -ℤ d) is.low_near, capped-near (b -ℤ c) is.high_near)

  pub difference_span : is_wide (subtracted (Whole a b) (Whole c d)) ≡ false → model.subtracted (Some (model.Whole a b)) (Some (model.Whole c d)) ≡ Some (model.Whole (capped (a -ℤ d)) (capped (b -ℤ c)))
  difference_span e =
      let ends = difference_ends e in same_whole (a -ℤ d) (b -ℤ c) (capped (a -ℤ d)) (capped (b -ℤ c)) (sym ends.0) (sym ends.1) (narrow (capped (a -ℤ d)) (capped (b -ℤ c)) e)

-- what is between near ends is near
four_near : (p q r s : ℤ) → IsNear (least_of p q r s) → IsNear (greatest_of p q r s) → IsNear p × IsNear q × IsNear r × IsNear s
four_near p q r s least greatest =
    let l = least.0 in
    let h = greatest.1 in
    ((omega (arith, ints, clamps), omega (arith, ints, clamps)), (omega (arith, ints, clamps), omega (arith, ints, clamps)), (omega (arith, ints, clamps), omega (arith, ints, clamps)), (omega (arith, ints, clamps), omega (arith, ints, clamps)))

module _ (a b c d : ℤ) where
  abbrev low_end : ℤ
  low_end = least_of (capped (a *ℤ c)) (capped (a *ℤ d)) (capped (b *ℤ c)) (capped (b *ℤ d))

  abbrev high_end : ℤ
  high_end = greatest_of (capped (a *ℤ c)) (capped (a *ℤ d)) (capped (b *ℤ c)) (capped (b *ℤ d))

  pub product_ends : is_wide (multiplied (Whole a b) (Whole c d)) ≡ false → (low_end ≡ least_of (a *ℤ c) (a *ℤ d) (b *ℤ c) (b *ℤ d)) × (high_end ≡ greatest_of (a *ℤ c) (a *ℤ d) (b *ℤ c) (b *ℤ d))
  product_ends e =
      let is = narrow low_end high_end e in
      let each = four_near (capped (a *ℤ c)) (capped (a *ℤ d)) (capped (b *ℤ c)) (capped (b *ℤ d)) is.low_near is.high_near in
      let p = capped-near (a *ℤ c) each.0 in
      let q = capped-near (a *ℤ d) each.1 in
      let r = capped-near (b *ℤ c) each.2 in
      let s = capped-near (b *ℤ d) each.3 in
      ((λ i. least_of (p i) (q i) (r i) (s i)), (λ i. greatest_of (p i) (q i) (r i) (s i)))

  pub product_span : is_wide (multiplied (Whole a b) (Whole c d)) ≡ false → model.multiplied (Some (model.Whole a b)) (Some (model.Whole c d)) ≡ Some (model.Whole low_end high_end)
  product_span e = let ends = product_ends e in same_whole _ _ low_end high_end (sym ends.0) (sym ends.1) (narrow low_end high_end e)
