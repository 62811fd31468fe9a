-- What a rising set is without the number at a place.
use Rattle.std.proofs.Common.{◌≡◌, ℕ, zero, suc, ◌+◌, ◌<◌, ◌==◌, Bool, true, false, not, List, [], ◌∷◌, ◌++◌, length, get_or, drop, cond, refl, ◌∙◌, ap, subst, arith}
use Rattle.std.specs.List.{AllPairs, remove, range_with_len}
use Rattle.std.proofs.lemmas.Bool.{eq-eqb, eqb-true}
use Rattle.std.proofs.lemmas.List.Elements.{All-filter, All-from_get_or}
use Rattle.std.proofs.lemmas.List.Kept.{AllPairs-from_increasing, IsStrictlyIncreasing-filter}
use Rattle.std.proofs.lemmas.List.FromFn.{length-range_with_len, get_or-range_with_len}
use Rattle.core_min.specs.Sets.{below, without, IsSetBelow}

differs : (b : Bool) (x y : ℕ) → (y == x) ≡ b → x < y → b ≡ false
differs true x y e h = absurd (let same = eqb-true y x e in omega (arith, same, h))
differs false x y e h = refl

-- where all numbers are greater than x, there is none to take out
none_is : (x : ℕ) (xs : List ℕ) → ((k : ℕ) → k < length xs → x < get_or xs k 0) → without xs x ≡ xs
none_is x [] above = refl
none_is x (y ∷ ys) above =
    ap (λ (b : Bool). cond (not b) (y ∷ without ys x) (without ys x)) (differs (y == x) x y refl (above 0 (omega arith)))
    ∙ ap (λ (zs : List ℕ). y ∷ zs) (none_is x ys (λ k h. above (suc k) (omega (arith, h))))

without_is : (xs : List ℕ) (i : ℕ) → AllPairs (λ x y. x < y) xs → i < length xs → without xs (get_or xs i 0) ≡ remove xs i
without_is [] i rises h = absurd (omega (arith, h))
without_is (x ∷ xs) zero rises h =
    ap (λ (b : Bool). cond (not b) (x ∷ without xs x) (without xs x)) (eq-eqb x x refl)
    ∙ none_is x xs (λ k inside. rises 0 (suc k) 0 (omega arith) (omega (arith, inside)))
without_is (x ∷ xs) (suc i) rises h =
    let later : i < length xs = omega (arith, h) in
    let less : x < get_or xs i 0 = rises 0 (suc i) 0 (omega arith) (omega (arith, later)) in
    ap (λ (b : Bool). cond (not b) (x ∷ without xs (get_or xs i 0)) (without xs (get_or xs i 0))) (apart x (get_or xs i 0) less)
    ∙ ap (λ (zs : List ℕ). x ∷ zs) (without_is xs i (λ j k d order inside. rises (suc j) (suc k) d (omega (arith, order)) (omega (arith, inside))) later)
  where
    other : (b : Bool) (y z : ℕ) → (y == z) ≡ b → y < z → b ≡ false
    other true y z e below = absurd (let same = eqb-true y z e in omega (arith, same, below))
    other false y z e below = refl

    apart : (y z : ℕ) → y < z → (y == z) ≡ false
    apart y z below = other (y == z) y z refl below

pub without_is_remove : (n : ℕ) (xs : List ℕ) (i : ℕ) → IsSetBelow n xs → i < length xs → without xs (get_or xs i 0) ≡ remove xs i
without_is_remove n xs i set h = without_is xs i (AllPairs-from_increasing xs set.rises) h

pub removed_is_set : (n : ℕ) (xs : List ℕ) (i : ℕ) → IsSetBelow n xs → i < length xs → IsSetBelow n (remove xs i)
removed_is_set n xs i set h =
    subst (IsSetBelow n) (without_is_remove n xs i set h)
    (record { rises = IsStrictlyIncreasing-filter _ xs set.rises; below = All-filter _ (λ m. m < n) xs set.below })

pub drop_removed : (xs : List ℕ) (i : ℕ) → i < length xs → drop i (remove xs i) ≡ drop (suc i) xs
drop_removed [] i h = absurd (omega (arith, h))
drop_removed (x ∷ xs) zero h = refl
drop_removed (x ∷ xs) (suc i) h = drop_removed xs i (omega (arith, h))

pub range_more : (a n : ℕ) → range_with_len a n ++ (a + n) ∷ [] ≡ range_with_len a (n + 1)
range_more a zero = let e : a + 0 ≡ a = omega arith in rw e refl
range_more a (suc n) =
    let e : a + suc n ≡ a + 1 + n = omega arith in
    let count : suc n + 1 ≡ suc (n + 1) = omega arith in
    rw (e, count) (ap (λ l. a ∷ l) (range_more (a + 1) n))

pub all_below : (n : ℕ) → IsSetBelow n (below n)
all_below n =
    record {
      rises = λ k h.
          let long : k + 1 < n = subst (λ (m : ℕ). k + 1 < m) (length-range_with_len 0 n) h in
          let first = get_or-range_with_len 0 n k 0 (omega (arith, long)) in
          let second = get_or-range_with_len 0 n (k + 1) 0 long in
          rw (first, second) (omega arith);
      below = All-from_get_or (λ m. m < n) (below n) 0 (λ i h.
          let long : i < n = subst (λ (m : ℕ). i < m) (length-range_with_len 0 n) h in
          rw (get_or-range_with_len 0 n i 0 long) (omega (arith, long)));
    }
