-- The letters in blocks of 64.
use Rattle.std.proofs.Common.{◌≡◌, ℕ, zero, suc, ◌+◌, ◌-◌, ◌*◌, ◌<◌, ◌≤◌, Bool, true, false, ◌&&◌, min, List, [], ◌∷◌, ◌++◌, length, map, take, drop, get_or, refl, sym, ap, subst, ◌∙◌, arith, inl, inr, ◌⊎◌, append_assoc}
use Rattle.std.specs.List.{list_all}
use Rattle.std.proofs.lemmas.Bool.{and_parts, and_from}
use Rattle.std.proofs.lemmas.List.{length-map, length-drop, map-append}
use Rattle.std.proofs.lemmas.List.Folds.{list_all-append}
use Rattle.spec_model.specs.Values.{Assignment}
use Rattle.pattern_rows.specs.Blocks.{AreWordsOf}

below_or_from : (i n : ℕ) → (i < n) ⊎ (n ≤ i)
below_or_from i n = grind arith

module _ {X : Type 0} where
  taken_few : (n : ℕ) (xs : List X) → length (take n xs) ≤ n
  taken_few zero xs = omega arith
  taken_few (suc n) [] = omega arith
  taken_few (suc n) (x ∷ xs) = let rest = taken_few n xs in omega (arith, rest)

  taken_all : (n : ℕ) (xs : List X) → length xs ≤ n → take n xs ≡ xs
  taken_all zero [] le = refl
  taken_all zero (x ∷ xs) le = absurd (omega arith)
  taken_all (suc n) [] le = refl
  taken_all (suc n) (x ∷ xs) le = ap (λ ys. x ∷ ys) (taken_all n xs (omega arith))

  slice_is : (xs : List X) (a n : ℕ) → n ≡ min (length xs) (a + 64) → take (n - a) (drop a xs) ≡ take 64 (drop a xs)
  slice_is xs a n is =
      elim (below_or_from (length xs) (a + 64)) [
        | inl short ↦
            let long = length-drop a xs in
            taken_all (n - a) (drop a xs) (omega (arith, is, short, long)) ∙ sym (taken_all 64 (drop a xs) (omega (arith, short, long)))
        | inr long ↦ let same : n - a ≡ 64 = omega (arith, is, long) in ap (λ m. take m (drop a xs)) same
      ]

  -- what holds of each holds of each of a part
  front_passes : (test : X → Bool) (n : ℕ) (xs : List X) → list_all test xs ≡ true → list_all test (take n xs) ≡ true
  front_passes test zero xs all = refl
  front_passes test (suc n) [] all = refl
  front_passes test (suc n) (x ∷ xs) all = let parts = and_parts (test x) (list_all test xs) all in and_from _ _ parts.0 (front_passes test n xs parts.1)

  back_passes : (test : X → Bool) (n : ℕ) (xs : List X) → list_all test xs ≡ true → list_all test (drop n xs) ≡ true
  back_passes test zero xs all = all
  back_passes test (suc n) [] all = refl
  back_passes test (suc n) (x ∷ xs) all = back_passes test n xs (and_parts (test x) (list_all test xs) all).1

  pub part_passes : (test : X → Bool) (n k : ℕ) (xs : List X) → list_all test xs ≡ true → list_all test (take n (drop k xs)) ≡ true
  part_passes test n k xs all = front_passes test n (drop k xs) (back_passes test k xs all)

  -- a part and what is behind it
  pub split_at : (n : ℕ) (xs : List X) → xs ≡ take n xs ++ drop n xs
  split_at zero xs = refl
  split_at (suc n) [] = refl
  split_at (suc n) (x ∷ xs) = ap (λ ys. x ∷ ys) (split_at n xs)

  dropped_past : (n : ℕ) (xs : List X) → length xs ≤ n → drop n xs ≡ []
  dropped_past zero [] le = refl
  dropped_past zero (x ∷ xs) le = absurd (omega arith)
  dropped_past (suc n) [] le = refl
  dropped_past (suc n) (x ∷ xs) le = dropped_past n xs (omega arith)

  dropped_twice : (a b : ℕ) (xs : List X) → drop b (drop a xs) ≡ drop (a + b) xs
  dropped_twice zero b xs = let same : b ≡ 0 + b = omega arith in ap (λ n. drop n xs) same
  dropped_twice (suc a) b [] = dropped_past b [] (omega arith) ∙ sym (dropped_past (suc a + b) [] (omega arith))
  dropped_twice (suc a) b (x ∷ xs) = let same : suc (a + b) ≡ suc a + b = omega arith in dropped_twice a b xs ∙ ap (λ n. drop n (x ∷ xs)) same

  -- a block and the later ones
  blocks_on : (c : ℕ) (xs : List X) → take 64 (drop (64 * c) xs) ++ drop (64 * (c + 1)) xs ≡ drop (64 * c) xs
  blocks_on c xs =
      let up : 64 * c + 64 ≡ 64 * (c + 1) = omega arith in
      ap (λ ys. take 64 (drop (64 * c) xs) ++ ys) (sym (dropped_twice (64 * c) 64 xs ∙ ap (λ n. drop n xs) up)) ∙ sym (split_at 64 (drop (64 * c) xs))

  module _ (test : X → Bool) (c : ℕ) (xs part : List X) (is : part ≡ take 64 (drop (64 * c) xs)) (whole : Bool) (before : list_all test (drop (64 * c) xs) ≡ whole) where
    both_parts : (list_all test part && list_all test (drop (64 * (c + 1)) xs)) ≡ whole
    both_parts = sym (list_all-append test part (drop (64 * (c + 1)) xs)) ∙ (ap (λ ys. list_all test (ys ++ drop (64 * (c + 1)) xs)) is ∙ (ap (list_all test) (blocks_on c xs) ∙ before))

    pub told_block : list_all test part ≡ true → list_all test (drop (64 * (c + 1)) xs) ≡ whole
    told_block told = sym (ap (λ b. b && list_all test (drop (64 * (c + 1)) xs)) told) ∙ both_parts

    pub open_block : list_all test part ≡ false → whole ≡ false
    open_block fails = sym both_parts ∙ ap (λ b. b && list_all test (drop (64 * (c + 1)) xs)) fails

  module _ {Y : Type 0} (f : X → Y) (c : ℕ) (xs part : List X) (is : part ≡ take 64 (drop (64 * c) xs)) where
    pub added_block : (old new whole : List Y) → new ≡ old ++ map f part → old ++ map f (drop (64 * c) xs) ≡ whole → new ++ map f (drop (64 * (c + 1)) xs) ≡ whole
    added_block old new whole made before =
        ap (λ ys. ys ++ map f (drop (64 * (c + 1)) xs)) made
        ∙ (append_assoc old (map f part) (map f (drop (64 * (c + 1)) xs))
        ∙ (ap (λ ys. old ++ ys) (sym (map-append f part (drop (64 * (c + 1)) xs)) ∙ ap (map f) (ap (λ ys. ys ++ drop (64 * (c + 1)) xs) is ∙ blocks_on c xs)) ∙ before))

module _ {V X : Type 0} (f : V → X) where
  take-mapped : (n : ℕ) (vs : List V) → map f (take n vs) ≡ take n (map f vs)
  take-mapped zero vs = refl
  take-mapped (suc n) [] = refl
  take-mapped (suc n) (v ∷ vs) = ap (λ ys. f v ∷ ys) (take-mapped n vs)

  drop-mapped : (n : ℕ) (vs : List V) → map f (drop n vs) ≡ drop n (map f vs)
  drop-mapped zero vs = refl
  drop-mapped (suc n) [] = refl
  drop-mapped (suc n) (v ∷ vs) = drop-mapped n vs

  pub block_is : (vs : List V) (a n : ℕ) → n ≡ min (length vs) (a + 64) → map f (take (n - a) (drop a vs)) ≡ take 64 (drop a (map f vs))
  block_is vs a n is = ap (map f) (slice_is vs a n is) ∙ (take-mapped 64 (drop a vs) ∙ ap (take 64) (drop-mapped a vs))

  pub block_few : (vs : List V) (xs : List X) → map f vs ≡ take 64 xs → length vs ≤ 64
  block_few vs xs is = let few = taken_few 64 xs in let same = ap length is in let long = length-map vs f in omega (arith, few, same, long)

-- one block more
module _ {V : Type 0} (words_in : V → List ℕ) (letters : List Assignment) where
  there : (old : List V) (x : V) (j : ℕ) → j < length old → get_or (map words_in (old ++ x ∷ [])) j [] ≡ get_or (map words_in old) j []
  there [] x j below = absurd (omega arith)
  there (v ∷ vs) x zero below = refl
  there (v ∷ vs) x (suc j) below = there vs x j (omega arith)

  last : (old : List V) (x : V) → get_or (map words_in (old ++ x ∷ [])) (length old) [] ≡ words_in x
  last [] x = refl
  last (v ∷ vs) x = last vs x

  longer : (old : List V) (x : V) → length (old ++ x ∷ []) ≡ length old + 1
  longer [] x = refl
  longer (v ∷ vs) x = let rest = longer vs x in omega (arith, rest)

  pub one_longer : (old new : List V) (x : V) (c : ℕ) → new ≡ old ++ x ∷ [] → length old ≡ c → length new ≡ c + 1
  one_longer old new x c made many = ap length made ∙ (longer old x ∙ ap (λ n. n + 1) many)

  pub one_block : (old new : List V) (x : V) (c : ℕ) → new ≡ old ++ x ∷ [] → length old ≡ c → ((j : ℕ) → j < c → AreWordsOf (take 64 (drop (64 * j) letters)) (get_or (map words_in old) j [])) →
      AreWordsOf (take 64 (drop (64 * c) letters)) (words_in x) → (j : ℕ) → j < c + 1 → AreWordsOf (take 64 (drop (64 * j) letters)) (get_or (map words_in new) j [])
  one_block old new x c made many before here j below =
      subst (λ vs. AreWordsOf (take 64 (drop (64 * j) letters)) (get_or (map words_in vs) j [])) (sym made)
      (elim (below_or_from j c) [
        | inl less ↦ subst (λ ws. AreWordsOf (take 64 (drop (64 * j) letters)) ws) (sym (there old x j (omega (arith, less, many)))) (before j less)
        | inr from ↦
            let same : c ≡ j = omega (arith, from, below) in
            subst (λ i. AreWordsOf (take 64 (drop (64 * i) letters)) (get_or (map words_in (old ++ x ∷ [])) i [])) same
            (subst (λ i. AreWordsOf (take 64 (drop (64 * c) letters)) (get_or (map words_in (old ++ x ∷ [])) i [])) many
            (subst (λ ws. AreWordsOf (take 64 (drop (64 * c) letters)) ws) (sym (last old x)) here))
      ])
