-- The first 0 of a plane, by the first word that has one.
use Rattle.std.proofs.Common.{◌≡◌, ◌≢◌, ◌==◌, ℕ, ◌+◌, ◌*◌, ◌/◌, ◌%◌, ◌<◌, ◌≤◌, true, false, not, List, length, take, get_or, sym, ap, ◌∙◌, arith, inl, inr, ◌⊎◌, w64}
use Rattle.std.specs.Int.{bit_at, trailing_ones}
use Rattle.std.specs.List.{prefix_len}
use Rattle.std.specs.Simd.Lanes.{chunk}
use Rattle.std.proofs.lemmas.Simd.{run_in_chunk_le, run_in_chunk_fails, run_in_chunk_stops}
use Rattle.std.proofs.lemmas.List.{get_or-take, length-take-le}
use Rattle.std.proofs.lemmas.Nat.Bits.{bit_at_ones, bit_at-trailing_ones}
use Rattle.column_planes.specs.Planes.{bit_in, has_zero, IsFullUpTo}

has_none : (w : ℕ) → has_zero w ≡ false → w ≡ 18446744073709551615
has_none w e = grind arith

has_some : (w : ℕ) → has_zero w ≡ true → w < 18446744073709551616 → w < 18446744073709551615
has_some w e fits = grind arith

-- ---- eight words more

module _ (a : List ℕ) (at r : ℕ) (room : at + 8 ≤ length a) (counted : r ≡ prefix_len (λ w. not (has_zero w)) (chunk at 8 a)) (full : IsFullUpTo a at) where
  pub at_most : r ≤ 8
  at_most = run_in_chunk_le has_zero a at 8 r 0 room counted

  pub full_on : IsFullUpTo a (at + r)
  full_on = (let le = at_most in omega (arith, room, le), λ k below. elim (here k) [ inl before ↦ full.1 k before | inr from_on ↦ has_none (get_or a k 0) (run_in_chunk_fails has_zero a at 8 r 0 room counted k from_on below) ])
    where
      here : (k : ℕ) → (k < at) ⊎ (at ≤ k)
      here k = grind arith

  pub stops_there : r < 8 → get_or a (at + r) 0 < 18446744073709551616 → get_or a (at + r) 0 < 18446744073709551615
  stops_there short fits = has_some (get_or a (at + r) 0) (run_in_chunk_stops has_zero a at 8 r 0 room counted short) fits

-- ---- bits

module _ (a : List ℕ) (k o : ℕ) (full : (j : ℕ) → j < k → get_or a j 0 ≡ 18446744073709551615) (low : o ≤ 64) (ones : (j : ℕ) → j < o → bit_at (get_or a k 0) j ≡ 1) where
  -- before it each bit is 1
  pub ones_before : (i : ℕ) → i < 64 * k + o → bit_in a i ≡ true
  ones_before i below =
      elim (here (i / 64)) [
        | inl before ↦ ap (λ w. bit_at w (i % 64) == 1) (full (i / 64) before) ∙ ap (λ n. n == 1) (bit_at_ones 64 (i % 64) (omega arith))
        | inr from_on ↦ let same : i / 64 ≡ k = omega (arith, below, from_on, low) in ap (λ n. bit_at (get_or a n 0) (i % 64) == 1) same ∙ ap (λ n. n == 1) (ones (i % 64) (omega (arith, below, same)))
      ]
    where
      here : (n : ℕ) → (n < k) ⊎ (k ≤ n)
      here n = grind arith

pub zero_there : (a : List ℕ) (k o : ℕ) → o < 64 → bit_at (get_or a k 0) o ≡ 0 → bit_in a (64 * k + o) ≡ false
zero_there a k o low is =
    let word : (64 * k + o) / 64 ≡ k = omega (arith, low) in
    let rest : (64 * k + o) % 64 ≡ o = omega (arith, low) in
    ap (λ n. bit_at (get_or a n 0) ((64 * k + o) % 64) == 1) word ∙ (ap (λ n. bit_at (get_or a k 0) n == 1) rest ∙ ap (λ n. n == 1) is)

-- the words of a part are full where they are among all
pub full_of_part : (a : List ℕ) (words k : ℕ) → k ≤ words → IsFullUpTo (take words a) k → (j : ℕ) → j < k → get_or a j 0 ≡ 18446744073709551615
full_of_part a words k le full j below = sym (get_or-take words a j 0 (omega (arith, le, below))) ∙ full.1 j below

-- the first word that has a 0, and the number of its first 0
pub record IsFirstAmong (a : List ℕ) (words k o : ℕ) : Type 0 where
  pub inside : k < words
  pub full : (j : ℕ) → j < k → get_or a j 0 ≡ 18446744073709551615
  pub low : o < 64
  pub zero : bit_at (get_or a k 0) o ≡ 0
  pub ones : (j : ℕ) → j < o → bit_at (get_or a k 0) j ≡ 1

module _ (a : List ℕ) (words k o bits : ℕ) (within : bits ≤ 64 * length a) (begun : 64 * words < bits + 64) (full : IsFullUpTo (take words a) k) (some_left : k ≢ words)
    (stops : k < length (take words a) → get_or (take words a) k 0 < 18446744073709551615) (is : o ≡ trailing_ones w64 (get_or a k 0)) where
  pub first_among : IsFirstAmong a words k o
  first_among =
      record {
        inside = inside;
        full = full_of_part a words k (omega (arith, inside)) full;
        low = omega (arith, is, first.0);
        zero = ap (bit_at (get_or a k 0)) is ∙ first.1;
        ones = λ j below. first.2 j (omega (arith, below, is));
      }
    where
      many : length (take words a) ≡ words
      many = length-take-le words a (omega (arith, within, begun))

      inside : k < words
      inside = let le = full.0 in let m = many in grind (arith, le, m, some_left)

      small : get_or a k 0 < 18446744073709551615
      small = let below = stops (omega (arith, many, inside)) in let same = get_or-take words a k 0 inside in omega (arith, below, same)

      first : (trailing_ones w64 (get_or a k 0) < 64) × (bit_at (get_or a k 0) (trailing_ones w64 (get_or a k 0)) ≡ 0) × ((j : ℕ) → j < trailing_ones w64 (get_or a k 0) → bit_at (get_or a k 0) j ≡ 1)
      first = bit_at-trailing_ones w64 (get_or a k 0) (omega (arith, small))
