-- A number is within the span of its expression.
use Rattle.std.proofs.Common.{◌≡◌, ℕ, suc, ◌≤◌, ℤ, pos, negsuc, ◌+ℤ◌, ◌-ℤ◌, ◌*ℤ◌, ◌≤ℤ◌, ◌<ℤ◌, true, false, if◌then◌else◌, sym, ap, subst, ◌∙◌, arith}
use Rattle.std.specs.Prelude.{int_lt}
use Rattle.std.specs.Int.{int_min, int_max, int_rem_euclid}
use Rattle.std.proofs.lemmas.Int.{ints, clamps}
use Rattle.std.proofs.Math.Nat.{mul-le-mul_right}
use Rattle.std.proofs.Math.IntN.{pos-*ℤ-pos, negsuc-*ℤ-pos, *ℤ-negsuc, *ℤ_comm}
use Rattle.spectra_judge.specs.Kinds.{Kind, Whole, SomeWhole, capped, is_wide, added, subtracted, multiplied, least_of, greatest_of, reduced}
use Rattle.spectra_judge.proofs.Spans.{IsNear, narrow, sum_ends, difference_ends, product_ends}

-- ---- products

-- the ends of a product's span
abbrev low_end : (a b c d : ℤ) → ℤ
low_end a b c d = least_of (capped (a *ℤ c)) (capped (a *ℤ d)) (capped (b *ℤ c)) (capped (b *ℤ d))

abbrev high_end : (a b c d : ℤ) → ℤ
high_end a b c d = greatest_of (capped (a *ℤ c)) (capped (a *ℤ d)) (capped (b *ℤ c)) (capped (b *ℤ d))

times_up : (x b : ℤ) (n : ℕ) → x ≤ℤ b → (x *ℤ pos n) ≤ℤ (b *ℤ pos n)
times_up (pos x) (pos b) n h = let k : x ≤ b = omega (arith, ints) in rw (pos-*ℤ-pos x n, pos-*ℤ-pos b n) (omega (arith, ints, mul-le-mul_right n k))
times_up (negsuc x) (pos b) n h = rw (negsuc-*ℤ-pos x n, pos-*ℤ-pos b n) (omega (arith, ints))
times_up (pos x) (negsuc b) n h = absurd (omega (arith, ints))
times_up (negsuc x) (negsuc b) n h = let k : suc b ≤ suc x = omega (arith, ints) in rw (negsuc-*ℤ-pos x n, negsuc-*ℤ-pos b n) (omega (arith, ints, mul-le-mul_right n k))

times_between : (a b x y : ℤ) → a ≤ℤ x → x ≤ℤ b → (int_min (a *ℤ y) (b *ℤ y) ≤ℤ (x *ℤ y)) × ((x *ℤ y) ≤ℤ int_max (a *ℤ y) (b *ℤ y))
times_between a b x (pos n) low high = let l = times_up a x n low in let h = times_up x b n high in (omega (arith, ints, clamps), omega (arith, ints, clamps))
times_between a b x (negsuc n) low high =
    let l = times_up a x (suc n) low in let h = times_up x b (suc n) high in
    rw (*ℤ-negsuc a n, *ℤ-negsuc b n, *ℤ-negsuc x n) (omega (arith, ints, clamps), omega (arith, ints, clamps))

times_between' : (c d x y : ℤ) → c ≤ℤ y → y ≤ℤ d → (int_min (x *ℤ c) (x *ℤ d) ≤ℤ (x *ℤ y)) × ((x *ℤ y) ≤ℤ int_max (x *ℤ c) (x *ℤ d))
times_between' c d x y low high = rw (*ℤ_comm x c, *ℤ_comm x d, *ℤ_comm x y) (times_between c d y x low high)

-- a product is between those of the ends
product_between : (a b c d x y : ℤ) → a ≤ℤ x → x ≤ℤ b → c ≤ℤ y → y ≤ℤ d
    → (least_of (a *ℤ c) (a *ℤ d) (b *ℤ c) (b *ℤ d) ≤ℤ (x *ℤ y)) × ((x *ℤ y) ≤ℤ greatest_of (a *ℤ c) (a *ℤ d) (b *ℤ c) (b *ℤ d))
product_between a b c d x y low high low' high' =
    let outer = times_between a b x y low high in
    let at_a = times_between' c d a y low' high' in
    let at_b = times_between' c d b y low' high' in
    (omega (arith, ints, clamps, outer.0, at_a.0, at_b.0), omega (arith, ints, clamps, outer.1, at_a.1, at_b.1))

-- ---- numbers within spans

-- a kind that is an interval with a number in it
pub record IsWithin (z : ℤ) (k : Kind) : Type 0 where
  pub low : ℤ
  pub high : ℤ
  pub is : k ≡ Whole low high
  pub from_low : low ≤ℤ z
  pub to_high : z ≤ℤ high

pub sum_within : (x y : ℤ) (j k : Kind) → IsWithin x j → IsWithin y k → is_wide (added j k) ≡ false → IsWithin (x +ℤ y) (added j k)
sum_within x y j k p q e =
    let wide : is_wide (added (Whole p.low p.high) (Whole q.low q.high)) ≡ false = sym (λ i. is_wide (added (p.is i) (q.is i))) ∙ e in
    let ends = sum_ends p.low p.high q.low q.high wide in
    let p_low = p.from_low in
    let p_high = p.to_high in
    let q_low = q.from_low in
    let q_high = q.to_high in
    record {
      low = capped (p.low +ℤ q.low);
      high = capped (p.high +ℤ q.high);
      is = λ i. added (p.is i) (q.is i);
      from_low = rw ends.0 (omega (arith, ints));
      to_high = rw ends.1 (omega (arith, ints));
    }

pub difference_within : (x y : ℤ) (j k : Kind) → IsWithin x j → IsWithin y k → is_wide (subtracted j k) ≡ false → IsWithin (x -ℤ y) (subtracted j k)
difference_within x y j k p q e =
    let wide : is_wide (subtracted (Whole p.low p.high) (Whole q.low q.high)) ≡ false = sym (λ i. is_wide (subtracted (p.is i) (q.is i))) ∙ e in
    let ends = difference_ends p.low p.high q.low q.high wide in
    let p_low = p.from_low in
    let p_high = p.to_high in
    let q_low = q.from_low in
    let q_high = q.to_high in
    record {
      low = capped (p.low -ℤ q.high);
      high = capped (p.high -ℤ q.low);
      is = λ i. subtracted (p.is i) (q.is i);
      from_low = rw ends.0 (omega (arith, ints));
      to_high = rw ends.1 (omega (arith, ints));
    }

pub product_within : (x y : ℤ) (j k : Kind) → IsWithin x j → IsWithin y k → is_wide (multiplied j k) ≡ false → IsWithin (x *ℤ y) (multiplied j k)
product_within x y j k p q e =
    let wide : is_wide (multiplied (Whole p.low p.high) (Whole q.low q.high)) ≡ false = sym (λ i. is_wide (multiplied (p.is i) (q.is i))) ∙ e in
    let ends = product_ends p.low p.high q.low q.high wide in
    let p_low = p.from_low in
    let p_high = p.to_high in
    let q_low = q.from_low in
    let q_high = q.to_high in
    record {
      low = low_end p.low p.high q.low q.high;
      high = high_end p.low p.high q.low q.high;
      is = λ i. multiplied (p.is i) (q.is i);
      from_low = subst (λ l. l ≤ℤ (x *ℤ y)) (sym ends.0) (product_between p.low p.high q.low q.high x y p_low p_high q_low q_high).0;
      to_high = subst (λ h. (x *ℤ y) ≤ℤ h) (sym ends.1) (product_between p.low p.high q.low q.high x y p_low p_high q_low q_high).1;
    }

remainder_between : (n z : ℤ) → pos 0 <ℤ n → (pos 0 ≤ℤ int_rem_euclid z n) × (int_rem_euclid z n ≤ℤ (n -ℤ pos 1))
remainder_between (pos n) (pos a) some = (omega (arith, ints), omega (arith, ints))
remainder_between (pos n) (negsuc a) some = (omega (arith, ints), omega (arith, ints))
remainder_between (negsuc n) z some = absurd (omega (arith, ints))

pub remainder_within : (n z : ℤ) → int_lt (pos 0) n ≡ true → IsWithin (int_rem_euclid z n) (reduced n)
remainder_within n z some =
    let more : pos 0 <ℤ n = grind (arith, ints) in
    let is = remainder_between n z more in
    record { low = pos 0; high = n -ℤ pos 1; is = ap (λ b. if b then Whole (pos 0) (n -ℤ pos 1) else SomeWhole) some; from_low = is.0; to_high = is.1 }

-- so it is near
pub within_near : (z : ℤ) (k : Kind) → IsWithin z k → is_wide k ≡ false → IsNear z
within_near z k is e =
    let ends = narrow is.low is.high (sym (ap is_wide is.is) ∙ e) in
    let l = ends.low_near.0 in
    let h = ends.high_near.1 in
    let from = is.from_low in
    let to = is.to_high in (omega (arith, ints), omega (arith, ints))
