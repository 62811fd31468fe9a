-- Words that are written eight at a time, and one by one.
use Rattle.std.proofs.Common.{◌≡◌, ℕ, zero, suc, ◌+◌, ◌<◌, ◌≤◌, List, [], ◌∷◌, ◌++◌, length, map, take, drop, get_or, slice_set, refl, sym, ap, ◌∙◌, arith}
use Rattle.std.proofs.Math.Seq.{take-add}
use Rattle.std.specs.Simd.Lanes.{zip2, put_chunk}
use Rattle.std.proofs.lemmas.Simd.{take_more_put_chunk, length-zip2, get_or-zip2, length-chunk}
use Rattle.std.proofs.lemmas.List.{length-map, get_or-map, take_more, take_more_set}
use Rattle.column_planes.specs.Planes.{IsWrittenTo}

pub take-all : {X : Type 0} (n : ℕ) (xs : List X) → length xs ≤ n → take n xs ≡ xs
take-all zero [] le = refl
take-all zero (x ∷ xs) le = absurd (omega arith)
take-all (suc n) [] le = refl
take-all (suc n) (x ∷ xs) le = ap (λ ys. x ∷ ys) (take-all n xs (omega arith))

module _ (f : ℕ → ℕ → ℕ) where
  take-zip2 : (n : ℕ) (xs ys : List ℕ) → take n (zip2 f xs ys) ≡ zip2 f (take n xs) (take n ys)
  take-zip2 zero xs ys = refl
  take-zip2 (suc n) [] ys = refl
  take-zip2 (suc n) (x ∷ xs) [] = refl
  take-zip2 (suc n) (x ∷ xs) (y ∷ ys) = ap (λ zs. f x y ∷ zs) (take-zip2 n xs ys)

  drop-zip2 : (n : ℕ) (xs ys : List ℕ) → length ys ≡ length xs → drop n (zip2 f xs ys) ≡ zip2 f (drop n xs) (drop n ys)
  drop-zip2 zero xs ys same = refl
  drop-zip2 (suc n) [] [] same = refl
  drop-zip2 (suc n) [] (y ∷ ys) same = absurd (omega arith)
  drop-zip2 (suc n) (x ∷ xs) [] same = absurd (omega arith)
  drop-zip2 (suc n) (x ∷ xs) (y ∷ ys) same = drop-zip2 n xs ys (omega arith)

take-map : (f : ℕ → ℕ) (n : ℕ) (xs : List ℕ) → take n (map f xs) ≡ map f (take n xs)
take-map f zero xs = refl
take-map f (suc n) [] = refl
take-map f (suc n) (x ∷ xs) = ap (λ ys. f x ∷ ys) (take-map f n xs)

drop-map : (f : ℕ → ℕ) (n : ℕ) (xs : List ℕ) → drop n (map f xs) ≡ map f (drop n xs)
drop-map f zero xs = refl
drop-map f (suc n) [] = refl
drop-map f (suc n) (x ∷ xs) = drop-map f n xs

-- what is stored goes on where the words before it stop
module _ (whole out lanes : List ℕ) (at : ℕ) (room : at + 8 ≤ length out) (many : length lanes ≡ 8) (before : IsWrittenTo at whole out) (are : lanes ≡ take 8 (drop at whole)) where
  pub eight_more : IsWrittenTo (at + 8) whole (put_chunk at out lanes)
  eight_more = take_more_put_chunk at out lanes (at + 8) (omega (arith, many)) (omega (arith, room)) ∙ (ap (λ ws. ws ++ lanes) before ∙ (ap (λ ws. take at whole ++ ws) are ∙ sym (take-add at 8 whole)))

-- one word more
pub one_more : (whole out : List ℕ) (k w : ℕ) → length out ≡ length whole → k < length whole → IsWrittenTo k whole out → w ≡ get_or whole k 0 → IsWrittenTo (k + 1) whole (slice_set out k w)
one_more whole out k w same below before is =
    take_more_set out k w (omega (arith, same, below))
    ∙ (ap (λ ws. ws ++ w ∷ []) before ∙ (ap (λ v. take k whole ++ v ∷ []) is ∙ sym (take_more whole k 0 below)))

-- all words are written
pub all_written : (whole out : List ℕ) (n : ℕ) → length out ≡ length whole → length whole ≤ n → IsWrittenTo n whole out → out ≡ whole
all_written whole out n same over before = sym (take-all n out (omega (arith, same, over))) ∙ (before ∙ take-all n whole over)

module _ (f : ℕ → ℕ → ℕ) (a b out : List ℕ) (at : ℕ) (same : length b ≡ length a) (sized : length out ≡ length a) where
  pub eight_of_both : at + 8 ≤ length a → IsWrittenTo at (zip2 f a b) out → IsWrittenTo (at + 8) (zip2 f a b) (put_chunk at out (zip2 f (take 8 (drop at a)) (take 8 (drop at b))))
  eight_of_both room before = eight_more (zip2 f a b) out (zip2 f (take 8 (drop at a)) (take 8 (drop at b))) at (omega (arith, sized, room)) many before here
    where
      many : length (zip2 f (take 8 (drop at a)) (take 8 (drop at b))) ≡ 8
      many = length-zip2 f (take 8 (drop at a)) (take 8 (drop at b)) (length-chunk at 8 a room ∙ sym (length-chunk at 8 b (omega (arith, same, room)))) ∙ length-chunk at 8 a room

      here : zip2 f (take 8 (drop at a)) (take 8 (drop at b)) ≡ take 8 (drop at (zip2 f a b))
      here = sym (ap (take 8) (drop-zip2 f at a b same) ∙ take-zip2 f 8 (drop at a) (drop at b))

  pub one_of_both : at < length a → IsWrittenTo at (zip2 f a b) out → IsWrittenTo (at + 1) (zip2 f a b) (slice_set out at (f (get_or a at 0) (get_or b at 0)))
  one_of_both below before =
      let long = length-zip2 f a b (sym same) in
      one_more (zip2 f a b) out at (f (get_or a at 0) (get_or b at 0)) (omega (arith, sized, long)) (omega (arith, below, long)) before
      (sym (get_or-zip2 f a b at 0 0 0 below (omega (arith, below, same))))

  pub both_written : length a ≤ at → IsWrittenTo at (zip2 f a b) out → out ≡ zip2 f a b
  both_written over before = let long = length-zip2 f a b (sym same) in all_written (zip2 f a b) out at (omega (arith, sized, long)) (omega (arith, over, long)) before

module _ (f : ℕ → ℕ) (a out : List ℕ) (at : ℕ) (sized : length out ≡ length a) where
  pub eight_of_one : at + 8 ≤ length a → IsWrittenTo at (map f a) out → IsWrittenTo (at + 8) (map f a) (put_chunk at out (map f (take 8 (drop at a))))
  eight_of_one room before =
      eight_more (map f a) out (map f (take 8 (drop at a))) at (omega (arith, sized, room)) (length-map (take 8 (drop at a)) f ∙ length-chunk at 8 a room) before
      (sym (ap (take 8) (drop-map f at a) ∙ take-map f 8 (drop at a)))

  pub one_of_one : at < length a → IsWrittenTo at (map f a) out → IsWrittenTo (at + 1) (map f a) (slice_set out at (f (get_or a at 0)))
  one_of_one below before =
      let long = length-map a f in
      one_more (map f a) out at (f (get_or a at 0)) (omega (arith, sized, long)) (omega (arith, below, long)) before
      (sym (get_or-map f a at 0 0 below))

  pub one_written : length a ≤ at → IsWrittenTo at (map f a) out → out ≡ map f a
  one_written over before = let long = length-map a f in all_written (map f a) out at (omega (arith, sized, long)) (omega (arith, over, long)) before
