-- Words of codes that are equal to a value.
use Rattle.std.proofs.Common.{◌≡◌, ◌==◌, ℕ, zero, suc, ◌+◌, ◌-◌, ◌*◌, ◌/◌, ◌%◌, ◌<◌, ◌≤◌, ◌^◌, Bool, true, false, List, [], ◌∷◌, length, map, take, drop, get_or, slice_set, cond, refl, sym, ap, ◌∙◌, arith, inl, inr, ◌⊎◌}
use mir.Val.{bool_byte}
use Rattle.std.specs.Int.{bit_at}
use Rattle.std.specs.Simd.Lanes.{mask_l}
use Rattle.std.proofs.Math.Nat.{pow-le-pow_right}
use Rattle.std.proofs.lemmas.Simd.{bit_mask_l, mask_l-lt}
use Rattle.std.proofs.lemmas.List.{length-map, get_or-take, get_or-drop, get_or_past, drop_more, length-drop, length-set, get_or-set_same, get_or-set_other}
use Rattle.std.proofs.lemmas.Nat.Bits.{bit_at-zero}
use Rattle.column_planes.specs.Planes.{bit_in}
use Rattle.column_planes.proofs.Lanes.{take-all}

-- fewer than 64 bits leave room for one more
pub small : (ms : List Bool) → length ms ≤ 63 → mask_l ms < 9223372036854775808
small ms few = let below = mask_l-lt ms in let up : 2 ^ length ms ≤ 2 ^ 63 = pow-le-pow_right {n = 2} (omega arith) {i = length ms} {j = 63} few in omega (arith, below, up)

pub byte_small : (n : ℕ) (b : Bool) → n ≡ bool_byte b → n ≤ 1
byte_small n true is = omega (arith, is)
byte_small n false is = omega (arith, is)

is_one : (b : Bool) → (cond b 1 0 == 1) ≡ b
is_one true = refl
is_one false = refl

module _ (p : ℕ → Bool) where
  -- one code more, before the others
  pub one_before : (codes : List ℕ) (i : ℕ) → i < length codes → mask_l (map p (drop i codes)) ≡ cond (p (get_or codes i 0)) 1 0 + 2 * mask_l (map p (drop (i + 1) codes))
  one_before codes i below = ap (λ cs. mask_l (map p cs)) (drop_more codes i 0 below)

  -- the word of the last codes has room for one more
  pub small_last : (codes : List ℕ) (i word : ℕ) → i < length codes → length codes < 64 → word ≡ mask_l (map p (drop (length codes - i) codes)) → word < 9223372036854775808
  small_last codes i word below few is =
      let ms = map p (drop (length codes - i) codes) in
      let long = length-map (drop (length codes - i) codes) p in
      let left = length-drop (length codes - i) codes in
      let bound = small ms (omega (arith, long, left, below, few)) in
      omega (arith, is, bound)

  take-map : (n : ℕ) (xs : List ℕ) → map p (take n xs) ≡ take n (map p xs)
  take-map zero xs = refl
  take-map (suc n) [] = refl
  take-map (suc n) (x ∷ xs) = ap (λ ys. p x ∷ ys) (take-map n xs)

  drop-map : (n : ℕ) (xs : List ℕ) → map p (drop n xs) ≡ drop n (map p xs)
  drop-map zero xs = refl
  drop-map (suc n) [] = refl
  drop-map (suc n) (x ∷ xs) = drop-map n xs

  module _ (codes out : List ℕ) (enough : length codes ≤ 64 * length out) (words : (j : ℕ) → j < length out → get_or out j 0 ≡ mask_l (map p (take 64 (drop (64 * j) codes)))) where
    pub bits_of_codes : (i : ℕ) → bit_in out i ≡ get_or (map p codes) i false
    bits_of_codes i =
        elim (here (i / 64)) [
          | inl below ↦
              ap (λ w. bit_at w (i % 64) == 1) (words (i / 64) below)
              ∙ (ap (λ n. n == 1) (bit_mask_l (map p (take 64 (drop (64 * (i / 64)) codes))) (i % 64))
              ∙ (is_one (get_or (map p (take 64 (drop (64 * (i / 64)) codes))) (i % 64) false)
              ∙ (ap (λ bs. get_or bs (i % 64) false) (take-map 64 (drop (64 * (i / 64)) codes) ∙ ap (take 64) (drop-map (64 * (i / 64)) codes))
              ∙ (get_or-take 64 (drop (64 * (i / 64)) (map p codes)) (i % 64) false (omega arith)
              ∙ (get_or-drop (64 * (i / 64)) (map p codes) (i % 64) false
              ∙ ap (λ n. get_or (map p codes) n false) (omega arith))))))
          | inr past ↦
              ap (λ w. bit_at w (i % 64) == 1) (get_or_past out (i / 64) 0 past)
              ∙ (ap (λ n. n == 1) (bit_at-zero (i % 64))
              ∙ sym (get_or_past (map p codes) i false (let long = length-map codes p in omega (arith, long, enough, past))))
        ]
      where
        here : (n : ℕ) → (n < length out) ⊎ (length out ≤ n)
        here n = grind arith

  -- the last word, of fewer than 64 codes, is written
  module _ (codes out : List ℕ) (whole word : ℕ) (within : length out ≤ whole + 1) (short : length codes < 64 * whole + 64) (before : (j : ℕ) → j < whole → get_or out j 0 ≡ mask_l (map p (take 64 (drop (64 * j) codes)))) (is : word ≡ mask_l (map p (drop (64 * whole) codes))) where
    pub last_word : (j : ℕ) → j < length (slice_set out whole word) → get_or (slice_set out whole word) j 0 ≡ mask_l (map p (take 64 (drop (64 * j) codes)))
    last_word j below =
        elim (here) [
          | inl earlier ↦ get_or-set_other out whole j word 0 (omega (arith, earlier)) ∙ before j earlier
          | inr last ↦
              let same : j ≡ whole = omega (arith, last, below, within, length-set out whole word) in
              ap (λ n. get_or (slice_set out whole word) n 0) same
              ∙ (get_or-set_same out whole word 0 (omega (arith, below, same, length-set out whole word))
              ∙ (is
              ∙ (ap (λ cs. mask_l (map p cs)) (sym (take-all 64 (drop (64 * whole) codes) (let left = length-drop (64 * whole) codes in omega (arith, left, short))))
              ∙ ap (λ n. mask_l (map p (take 64 (drop (64 * n) codes)))) (sym same))))
        ]
      where
        here : (j < whole) ⊎ (whole ≤ j)
        here = grind arith
