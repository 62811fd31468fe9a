-- The least number of bits that gives so many codes.
use Rattle.std.proofs.Common.{◌≡◌, ℕ, zero, suc, ◌+◌, ◌-◌, ◌^◌, ◌<◌, ◌≤◌, true, false, nat_lt, min, if◌then◌else◌, [], ◌∷◌, ◌∙◌, arith, ◌⊎◌, inl, inr}
use Rattle.std.proofs.Math.Pow.{pow_mono}
use Rattle.std.proofs.lemmas.Bool.Decides.{nat_tests}
use Rattle.std.proofs.lemmas.List.Sums.{sum_by-append}
use Rattle.std.specs.List.{count_by}
use Rattle.spec_model.specs.Steps.{below}
use Rattle.spec_model.specs.Needs.{bits_for}

below_pow : (k : ℕ) → k < 2 ^ k
below_pow zero = omega arith
below_pow (suc k) = let rest = below_pow k in omega (arith, rest)

module _ (n w : ℕ) (wanted : (b : ℕ) → b < w → 2 ^ b < n) (enough : n ≤ 2 ^ w) where
  counted : (m : ℕ) → count_by (λ b. nat_lt (2 ^ b) n) (below m) ≡ min w m
  counted zero = grind arith
  counted (suc m) = sum_by-append (λ b. if nat_lt (2 ^ b) n then 1 else 0) (below m) (m ∷ []) ∙ by_cases less_or_more (counted m)
    where
      less_or_more : (m < w) ⊎ (w ≤ m)
      less_or_more = grind arith

      by_cases : (m < w) ⊎ (w ≤ m) → count_by (λ b. nat_lt (2 ^ b) n) (below m) ≡ min w m → count_by (λ b. nat_lt (2 ^ b) n) (below m) + count_by (λ b. nat_lt (2 ^ b) n) (m ∷ []) ≡ min w (suc m)
      by_cases (inl less) so_far =
          let more = wanted m less in
          let here : nat_lt (2 ^ m) n ≡ true = grind (arith, nat_tests) in
          rw here (omega (arith, so_far))
      by_cases (inr past) so_far =
          let above : 2 ^ w ≤ 2 ^ m = pow_mono past in
          let here : nat_lt (2 ^ m) n ≡ false = grind (arith, nat_tests) in
          rw here (omega (arith, so_far))

  w_small : w ≤ n
  w_small = by_cases zero_or_more
    where
      zero_or_more : (w ≡ 0) ⊎ (0 < w)
      zero_or_more = grind arith

      by_cases : (w ≡ 0) ⊎ (0 < w) → w ≤ n
      by_cases (inl z) = omega arith
      by_cases (inr more) = let last = wanted (w - 1) (omega arith) in let low = below_pow (w - 1) in omega (arith, last, low)

  pub bits_for-is : bits_for n ≡ w
  bits_for-is = let all = counted n in let small = w_small in grind (arith, all, small)

-- a width that is wanted and enough
pub record HasWidth (n w : ℕ) : Type 0 where
  pub wanted : (b : ℕ) → b < w → 2 ^ b < n
  pub enough : n ≤ 2 ^ w

search_width : (n fuel w : ℕ) → ((b : ℕ) → b < w → 2 ^ b < n) → n ≤ 2 ^ (w + fuel) → (v : ℕ) × HasWidth n v
search_width n zero w wanted h = (w, record { wanted = wanted; enough = (let e : w + 0 ≡ w = omega arith in rw e at h) })
search_width n (suc fuel) w wanted h = by_cases there_or_more (search_width n fuel (w + 1))
  where
    there_or_more : (n ≤ 2 ^ w) ⊎ (2 ^ w < n)
    there_or_more = grind arith

    by_cases : (n ≤ 2 ^ w) ⊎ (2 ^ w < n) → (((b : ℕ) → b < w + 1 → 2 ^ b < n) → n ≤ 2 ^ ((w + 1) + fuel) → (v : ℕ) × HasWidth n v) → (v : ℕ) × HasWidth n v
    by_cases (inl there) further = (w, record { wanted = wanted; enough = there })
    by_cases (inr more) further = further (λ b less. last b less) (let e : w + suc fuel ≡ (w + 1) + fuel = omega arith in rw e at h)
      where
        last : (b : ℕ) → b < w + 1 → 2 ^ b < n
        last b less = split (grind arith)
          where
            split : (b < w) ⊎ (b ≡ w) → 2 ^ b < n
            split (inl before) = wanted b before
            split (inr same) = rw same more

-- there is a code for each
pub bits_suffice : (n : ℕ) → n ≤ 2 ^ bits_for n
bits_suffice n =
    let found = search_width n n 0 (λ b less. absurd (omega arith)) (let low = below_pow n in let e : 0 + n ≡ n = omega arith in rw e (omega (arith, low))) in
    let same = bits_for-is n found.0 found.1.wanted found.1.enough in
    rw same found.1.enough
