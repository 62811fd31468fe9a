-- The bits of rows whose words are put together word by word.
use Rattle.std.proofs.Common.{◌≡◌, ℕ, ◌+◌, ◌-◌, ◌*◌, ◌/◌, ◌%◌, ◌^◌, ◌<◌, ◌≤◌, ◌⊎◌, inl, inr, Bool, true, false, not, ◌&&◌, ◌||◌, if◌then◌else◌, List, [], ◌∷◌, ◌++◌, length, map, w64, add-one, get_or, eqb, min, max, refl, sym, ◌∙◌, ap, arith}
use Rattle.std.specs.Prelude.{bit_and, bit_or, bit_xor}
use Rattle.std.specs.Int.{bit_at, bit_not}
use Rattle.std.proofs.lemmas.Bool.{cases_lt}
use Rattle.std.proofs.lemmas.List.{get_or_past, length-map, map-append}
use Rattle.std.proofs.lemmas.Nat.{pow_below}
use Rattle.std.proofs.lemmas.Nat.Bits.{shr_and_one, ones_shl, bit_at_set_same, bit_at_set_other, bit_at_and, bit_at_or, bit_at_xor, bit_at-zero, bit_at-lt, bit_at_ones, bit_at_ones_above, same_from_bits}
use Rattle.spec_model.specs.Steps.{below}
use Rattle.region_rows.specs.declared.row.Row.{Row}
use Rattle.region_rows.specs.Rows.{word_of, set_in, bit_of, ones_of, Shows}
use Rattle.game_values.proofs.Typed.{get-map-below}
use Rattle.game_values.proofs.Lists.{length-below}

-- ---- the ones of the numbers below a count

ones_in : (count j i : ℕ) → i < 64 → j * 64 + i < count → bit_at (ones_of count j) i ≡ 1
unfolding ones_of
ones_in count j i small h = bit_at_ones (min 64 (count - j * 64)) i (omega arith)

ones_out : (count j i : ℕ) → count ≤ j * 64 + i → bit_at (ones_of count j) i ≡ 0
unfolding ones_of
ones_out count j i h = bit_at_ones_above (min 64 (count - j * 64)) i (omega arith)

inside : (w count j i : ℕ) → i < 64 → j * 64 + i < count → bit_at (bit_and w (ones_of count j)) i ≡ bit_at w i
inside w count j i small h = omega (arith, bit_at_and w (ones_of count j) i, ones_in count j i small h, bit_at-lt w i)

outside : (w count j i : ℕ) → count ≤ j * 64 + i → bit_at (bit_and w (ones_of count j)) i ≡ 0
outside w count j i h = omega (arith, bit_at_and w (ones_of count j) i, ones_out count j i h)

-- ---- a row of words that are cut off at a count

module _ (row : Row) (count : ℕ) (w : ℕ → ℕ) (f : ℕ → Bool)
    (n : ℕ) (end : n ≡ count / 64 + 1) (words : row.words.items ≡ map (λ j. bit_and (w j) (ones_of count j)) (below n)) where
  word_is : (j : ℕ) → j < n → word_of row j ≡ bit_and (w j) (ones_of count j)
  word_is j h = ap (λ items. get_or items j 0) words ∙ get-map-below (λ j. bit_and (w j) (ones_of count j)) n j 0 h

  word_past : (j : ℕ) → n ≤ j → word_of row j ≡ 0
  word_past j h =
      ap (λ items. get_or items j 0) words
      ∙ get_or_past (map (λ j. bit_and (w j) (ones_of count j)) (below n)) j 0
      (omega (arith, length-map (below n) (λ j. bit_and (w j) (ones_of count j)), length-below n, h))

  none_past : (k : ℕ) → count ≤ k → (k / 64 < n) ⊎ (n ≤ k / 64) → bit_at (word_of row (k / 64)) (k % 64) ≡ 0
  none_past k h (inl less) = ap (λ v. bit_at v (k % 64)) (word_is (k / 64) less) ∙ outside (w (k / 64)) count (k / 64) (k % 64) (omega arith)
  none_past k h (inr past) = ap (λ v. bit_at v (k % 64)) (word_past (k / 64) past) ∙ bit_at-zero (k % 64)

  shown : ((k : ℕ) → set_in (w (k / 64)) (k % 64) ≡ f k) → Shows row (map f (below count))
  unfolding bit_of
  shown each = record { at = λ k. by_cases k (cases_lt k count) }
    where
      by_cases : (k : ℕ) → (k < count) ⊎ (count ≤ k) → bit_of row k ≡ get_or (map f (below count)) k false
      by_cases k (inl less) =
          ap (λ v. eqb v 1) (ap (λ v. bit_at v (k % 64)) (word_is (k / 64) (omega arith)) ∙ inside (w (k / 64)) count (k / 64) (k % 64) (omega arith) (omega arith))
          ∙ (each k ∙ sym (get-map-below f count k false less))
      by_cases k (inr past) =
          ap (λ v. eqb v 1) (none_past k past (cases_lt (k / 64) n))
          ∙ sym (get_or_past (map f (below count)) k false (omega (arith, length-map (below count) f, length-below count, past)))

-- ---- one bit of two words

bit_cases : (w i : ℕ) → (bit_at w i ≡ 0) ⊎ (bit_at w i ≡ 1)
bit_cases w i = grind (arith, bit_at-lt w i)

both_set : (v w i : ℕ) → set_in (bit_and v w) i ≡ (set_in v i && set_in w i)
both_set v w i = ap (λ b. eqb b 1) (bit_at_and v w i) ∙ by_cases (bit_at v i) (bit_at w i) (bit_cases v i) (bit_cases w i)
  where
    by_cases : (x y : ℕ) → (x ≡ 0) ⊎ (x ≡ 1) → (y ≡ 0) ⊎ (y ≡ 1) → eqb (min x y) 1 ≡ (eqb x 1 && eqb y 1)
    by_cases x y (inl p) (inl q) = rw (p, q) refl
    by_cases x y (inl p) (inr q) = rw (p, q) refl
    by_cases x y (inr p) (inl q) = rw (p, q) refl
    by_cases x y (inr p) (inr q) = rw (p, q) refl

either_set : (v w i : ℕ) → set_in (bit_or v w) i ≡ (set_in v i || set_in w i)
either_set v w i = ap (λ b. eqb b 1) (bit_at_or v w i) ∙ by_cases (bit_at v i) (bit_at w i) (bit_cases v i) (bit_cases w i)
  where
    by_cases : (x y : ℕ) → (x ≡ 0) ⊎ (x ≡ 1) → (y ≡ 0) ⊎ (y ≡ 1) → eqb (max x y) 1 ≡ (eqb x 1 || eqb y 1)
    by_cases x y (inl p) (inl q) = rw (p, q) refl
    by_cases x y (inl p) (inr q) = rw (p, q) refl
    by_cases x y (inr p) (inl q) = rw (p, q) refl
    by_cases x y (inr p) (inr q) = rw (p, q) refl

rest_set : (w i : ℕ) → i < 64 → set_in (bit_xor w (2 ^ 64 - 1)) i ≡ not (set_in w i)
rest_set w i h = ap (λ b. eqb b 1) (bit_at_xor w (2 ^ 64 - 1) i ∙ ap (λ o. (bit_at w i + o) % 2) (bit_at_ones 64 i h)) ∙ by_cases (bit_at w i) (bit_cases w i)
  where
    by_cases : (x : ℕ) → (x ≡ 0) ⊎ (x ≡ 1) → eqb ((x + 1) % 2) 1 ≡ not (eqb x 1)
    by_cases x (inl p) = rw p refl
    by_cases x (inr p) = rw p refl

all_set : (value : Bool) (i : ℕ) → i < 64 → set_in (if value then 2 ^ 64 - 1 else 0) i ≡ value
all_set true i h = ap (λ b. eqb b 1) (bit_at_ones 64 i h)
all_set false i h = ap (λ b. eqb b 1) (bit_at-zero i)

-- ---- what the words of a row show

pub filled_shown : (row : Row) (value : Bool) (count n : ℕ) → n ≡ count / 64 + 1 → row.words.items ≡ map (λ j. bit_and (if value then 2 ^ 64 - 1 else 0) (ones_of count j)) (below n) → Shows row (map (λ k. value) (below count))
filled_shown row value count n end words = shown row count (λ j. if value then 2 ^ 64 - 1 else 0) (λ k. value) n end words (λ k. all_set value (k % 64) (omega arith))

pub copied_shown : (row a : Row) (count n : ℕ) → n ≡ count / 64 + 1 → row.words.items ≡ map (λ j. bit_and (word_of a j) (ones_of count j)) (below n) → Shows row (map (λ k. bit_of a k) (below count))
unfolding bit_of
copied_shown row a count n end words = shown row count (word_of a) (bit_of a) n end words (λ k. refl)

pub both_shown : (row a b : Row) (count n : ℕ) → n ≡ count / 64 + 1 → row.words.items ≡ map (λ j. bit_and (bit_and (word_of a j) (word_of b j)) (ones_of count j)) (below n) → Shows row (map (λ k. bit_of a k && bit_of b k) (below count))
unfolding bit_of
both_shown row a b count n end words = shown row count (λ j. bit_and (word_of a j) (word_of b j)) (λ k. bit_of a k && bit_of b k) n end words (λ k. both_set (word_of a (k / 64)) (word_of b (k / 64)) (k % 64))

pub either_shown : (row a b : Row) (count n : ℕ) → n ≡ count / 64 + 1 → row.words.items ≡ map (λ j. bit_and (bit_or (word_of a j) (word_of b j)) (ones_of count j)) (below n) → Shows row (map (λ k. bit_of a k || bit_of b k) (below count))
unfolding bit_of
either_shown row a b count n end words = shown row count (λ j. bit_or (word_of a j) (word_of b j)) (λ k. bit_of a k || bit_of b k) n end words (λ k. either_set (word_of a (k / 64)) (word_of b (k / 64)) (k % 64))

pub rest_shown : (row a : Row) (count n : ℕ) → n ≡ count / 64 + 1 → row.words.items ≡ map (λ j. bit_and (bit_xor (word_of a j) (2 ^ 64 - 1)) (ones_of count j)) (below n) → Shows row (map (λ k. not (bit_of a k)) (below count))
unfolding bit_of
rest_shown row a count n end words = shown row count (λ j. bit_xor (word_of a j) (2 ^ 64 - 1)) (λ k. not (bit_of a k)) n end words (λ k. rest_set (word_of a (k / 64)) (k % 64) (omega arith))

pub packed_shown : (row : Row) (bits : List Bool) (n : ℕ) → n ≡ length bits / 64 + 1 → length row.words.items ≡ n
    → ((j i : ℕ) → j < n → i < 64 → set_in (get_or row.words.items j 0) i ≡ get_or bits (j * 64 + i) false) → Shows row bits
unfolding bit_of
packed_shown row bits n end len each = record { at = λ k. by_cases k (cases_lt (k / 64) n) }
  where
    by_cases : (k : ℕ) → (k / 64 < n) ⊎ (n ≤ k / 64) → bit_of row k ≡ get_or bits k false
    by_cases k (inl less) = let place : k / 64 * 64 + k % 64 ≡ k = omega arith in each (k / 64) (k % 64) less (omega arith) ∙ ap (λ m. get_or bits m false) place
    by_cases k (inr past) =
        ap (λ v. eqb v 1) (ap (λ v. bit_at v (k % 64)) (get_or_past row.words.items (k / 64) 0 (omega arith)) ∙ bit_at-zero (k % 64))
        ∙ sym (get_or_past bits k false (omega arith))

pub has_bit : (row : Row) (k w : ℕ) → w ≡ word_of row (k / 64) → eqb (bit_and (w / 2 ^ (k % 64)) 1) 1 ≡ bit_of row k
unfolding bit_of
has_bit row k w e = ap (λ v. eqb v 1) (shr_and_one w (k % 64) ∙ ap (λ v. bit_at v (k % 64)) e)

pub full_ones : (count j : ℕ) → j < count / 64 → 2 ^ 64 - 1 ≡ ones_of count j
unfolding ones_of
full_ones count j h = let all : 64 ≡ min 64 (count - j * 64) = omega arith in ap (λ n. 2 ^ n - 1) all

pub low_ones : (count j : ℕ) → j ≡ count / 64 → bit_not w64 ((2 ^ 64 - 1) * 2 ^ (count % 64) % 2 ^ 64) ≡ ones_of count j
unfolding ones_of
low_ones count j h =
    let some : count % 64 ≡ min 64 (count - j * 64) = omega arith in
    ap (bit_not w64) (ones_shl 64 (count % 64) (omega arith)) ∙ (back (2 ^ (count % 64)) (omega (arith, pow_below (count % 64) 64 (omega arith))) ∙ ap (λ n. 2 ^ n - 1) some)
  where
    back : (p : ℕ) → p ≤ 2 ^ 64 → 2 ^ 64 - 1 - (2 ^ 64 - p) ≡ p - 1
    back p h = omega arith

pub pushed : (old new : List ℕ) (w : ℕ → ℕ) (j x : ℕ) → new ≡ old ++ x ∷ [] → old ≡ map w (below j) → x ≡ w j → new ≡ map w (below (j + 1))
pushed old new w j x e o is = e ∙ (ap (λ l. l ++ x ∷ []) o ∙ (ap (λ v. map w (below j) ++ v ∷ []) is ∙ (sym (map-append w (below j) (j ∷ [])) ∙ ap (λ n. map w (below n)) (sym (add-one j)))))

-- ---- a word from a list, bit by bit

module _ (bits : List Bool) (word i : ℕ) (small : i < 64) (low : (m : ℕ) → m < i → set_in word m ≡ get_or bits m false) (high : (m : ℕ) → i ≤ m → bit_at word m ≡ 0) where
  pub next_below : (b : Bool) → b ≡ get_or bits i false → (m : ℕ) → m < i + 1 → set_in (if b then bit_or word (1 * 2 ^ i % 2 ^ 64) else word) m ≡ get_or bits m false
  next_below true e m h = by_cases (cases_lt m i)
    where
      by_cases : (m < i) ⊎ (i ≤ m) → set_in (bit_or word (1 * 2 ^ i % 2 ^ 64)) m ≡ get_or bits m false
      by_cases (inl less) = ap (λ v. eqb v 1) (bit_at_set_other w64 word i small m (λ s. omega arith)) ∙ low m less
      by_cases (inr here) =
          let is : m ≡ i = omega arith in
          ap (λ v. eqb v 1) (ap (bit_at (bit_or word (1 * 2 ^ i % 2 ^ 64))) is ∙ bit_at_set_same w64 word i small) ∙ (e ∙ ap (λ n. get_or bits n false) (sym is))
  next_below false e m h = by_cases (cases_lt m i)
    where
      by_cases : (m < i) ⊎ (i ≤ m) → set_in word m ≡ get_or bits m false
      by_cases (inl less) = low m less
      by_cases (inr here) =
          let is : m ≡ i = omega arith in
          ap (λ v. eqb v 1) (high m here) ∙ (e ∙ ap (λ n. get_or bits n false) (sym is))

  pub next_above : (b : Bool) (m : ℕ) → i + 1 ≤ m → bit_at (if b then bit_or word (1 * 2 ^ i % 2 ^ 64) else word) m ≡ 0
  next_above true m h = bit_at_set_other w64 word i small m (λ s. omega arith) ∙ high m (omega arith)
  next_above false m h = high m (omega arith)

-- ---- rows with the same numbers below a count

bit_from_set : (v w i : ℕ) → set_in v i ≡ set_in w i → bit_at v i ≡ bit_at w i
bit_from_set v w i = by_cases (bit_at v i) (bit_at w i) (bit_cases v i) (bit_cases w i)
  where
    by_cases : (x y : ℕ) → (x ≡ 0) ⊎ (x ≡ 1) → (y ≡ 0) ⊎ (y ≡ 1) → eqb x 1 ≡ eqb y 1 → x ≡ y
    by_cases x y (inl p) (inl q) e = cc
    by_cases x y (inl p) (inr q) e = let e : eqb 0 1 ≡ eqb 1 1 = rw (p, q) at e in cc
    by_cases x y (inr p) (inl q) e = let e : eqb 1 1 ≡ eqb 0 1 = rw (p, q) at e in cc
    by_cases x y (inr p) (inr q) e = cc

pub bit_of-word : (a b : Row) (count k : ℕ) → k < count → bit_and (word_of a (k / 64)) (ones_of count (k / 64)) ≡ bit_and (word_of b (k / 64)) (ones_of count (k / 64)) → bit_of a k ≡ bit_of b k
unfolding bit_of
bit_of-word a b count k h e =
    ap (λ v. eqb v 1)
    (sym (inside (word_of a (k / 64)) count (k / 64) (k % 64) (omega arith) (omega arith))
    ∙ (ap (λ v. bit_at v (k % 64)) e ∙ inside (word_of b (k / 64)) count (k / 64) (k % 64) (omega arith) (omega arith)))

ones_low : (count j i : ℕ) → 64 ≤ i → bit_at (ones_of count j) i ≡ 0
unfolding ones_of
ones_low count j i h = bit_at_ones_above (min 64 (count - j * 64)) i (omega arith)

pub word-bit_of : (a b : Row) (count j : ℕ) → ((k : ℕ) → k < count → bit_of a k ≡ bit_of b k) → bit_and (word_of a j) (ones_of count j) ≡ bit_and (word_of b j) (ones_of count j)
unfolding bit_of
word-bit_of a b count j each = same_from_bits _ _ (λ i. by_cases i (cases_lt i 64) (cases_lt (j * 64 + i) count))
  where
    at : (i : ℕ) → i < 64 → j * 64 + i < count → bit_at (word_of a j) i ≡ bit_at (word_of b j) i
    at i small h =
        let word : (j * 64 + i) / 64 ≡ j = omega arith in
        let place : (j * 64 + i) % 64 ≡ i = omega arith in
        bit_from_set (word_of a j) (word_of b j) i (rw (word, place) at (each (j * 64 + i) h))

    none : (w i : ℕ) → 64 ≤ i → bit_at (bit_and w (ones_of count j)) i ≡ 0
    none w i h = omega (arith, bit_at_and w (ones_of count j) i, ones_low count j i h)

    by_cases : (i : ℕ) → (i < 64) ⊎ (64 ≤ i) → (j * 64 + i < count) ⊎ (count ≤ j * 64 + i) → bit_at (bit_and (word_of a j) (ones_of count j)) i ≡ bit_at (bit_and (word_of b j) (ones_of count j)) i
    by_cases i (inl small) (inl less) = inside (word_of a j) count j i small less ∙ (at i small less ∙ sym (inside (word_of b j) count j i small less))
    by_cases i (inl small) (inr past) = outside (word_of a j) count j i past ∙ sym (outside (word_of b j) count j i past)
    by_cases i (inr big) any = none (word_of a j) i big ∙ sym (none (word_of b j) i big)
