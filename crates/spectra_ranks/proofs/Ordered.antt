-- The order by ranks: first those of rank 0, then those of rank 1, and so on.
use Rattle.std.proofs.Common.{◌≡◌, ℕ, zero, suc, ◌+◌, ◌<◌, ◌≤◌, ◌==◌, nat_lt, Bool, true, false, if◌then◌else◌, cond, List, [], ◌∷◌, ◌++◌, length, Option, Some, None, slice_get, unwrap_or, refl, sym, ap, subst, ◌∙◌, inl, inr, ◌⊎◌, arith, append_assoc, append-nil}
use Rattle.std.proofs.lemmas.Bool.{false≢true, cases_Bool, cases_lt, lt-ltb, ltb-false, ltb-true, eqb-true}
use Rattle.std.proofs.lemmas.Bool.Decides.{nat_tests}
use Rattle.std.proofs.lemmas.List.{length-append}
use Rattle.std.proofs.lemmas.Option.{slice_get_within}
use Rattle.spectra_uses.specs.Cycles.{reaches}
use Rattle.spectra_uses.specs.Searching.{next_of}
use Rattle.spectra_uses.specs.Orders.{StandsBefore, IsUse, BothOnCycle, IsOrderOf}
use Rattle.spectra_uses.proofs.Reaching.{push-before, push-last, push-cases}
use Rattle.spectra_ranks.specs.Laws.{NoneGoesRound, AcyclicHaveAnOrder}
use Rattle.spectra_ranks.proofs.Ranks.{passing, rank, rank_below, rank_falls}

-- ---- parts of lists

place_left : (xs ys : List ℕ) (i v : ℕ) → slice_get xs i ≡ Some v → slice_get (xs ++ ys) i ≡ Some v
place_left [] ys i v at = absurd (none_there at)
  where
    none_there : slice_get {X = ℕ} [] i ≡ Some v → ⊥
    none_there e = cc
place_left (x ∷ xs) ys zero v at = at
place_left (x ∷ xs) ys (suc i) v at = place_left xs ys i v at

place_right : (xs ys : List ℕ) (i v : ℕ) → slice_get ys i ≡ Some v → (j : ℕ) → j ≡ length xs + i → slice_get (xs ++ ys) j ≡ Some v
place_right [] ys i v at j is = let same : i ≡ j = omega (arith, is) in subst (λ j. slice_get ys j ≡ Some v) same at
place_right (x ∷ xs) ys i v at zero is = absurd (omega (arith, is))
place_right (x ∷ xs) ys i v at (suc j) is = place_right xs ys i v at j (omega (arith, is))

-- what stands in two lists together stands in the one or the other
place_cases : (xs ys : List ℕ) (i v : ℕ) → slice_get (xs ++ ys) i ≡ Some v → (slice_get xs i ≡ Some v) ⊎ ((j : ℕ) × (i ≡ length xs + j) × (slice_get ys j ≡ Some v))
place_cases [] ys i v at = inr (i, omega arith, at)
place_cases (x ∷ xs) ys zero v at = inl at
place_cases (x ∷ xs) ys (suc i) v at = elim (place_cases xs ys i v at) [
  | inl left ↦ inl left
  | inr right ↦ inr (right.0, (let is = right.1 in omega (arith, is)), right.2)
]

-- ---- the numbers below one that pass a test

abbrev below : (ℕ → Bool) → ℕ → List ℕ
below p zero = []
below p (suc n) = below p n ++ (if p n then n ∷ [] else [])

count_one : (b : Bool) (n : ℕ) → length (if b then n ∷ [] else []) ≡ cond {A = ℕ} b 1 0
count_one true n = refl
count_one false n = refl

below-length : (p : ℕ → Bool) (n : ℕ) → length (below p n) ≡ passing p n
below-length p zero = refl
below-length p (suc n) = let rest = below-length p n in let here = count_one (p n) n in let both = length-append (below p n) (if p n then n ∷ [] else []) in omega (arith, rest, here, both)

below-passes : (p : ℕ → Bool) (n i v : ℕ) → slice_get (below p n) i ≡ Some v → (v < n) × (p v ≡ true)
below-passes p zero i v at = absurd (none_there at)
  where
    none_there : slice_get {X = ℕ} [] i ≡ Some v → ⊥
    none_there e = cc
below-passes p (suc n) i v at = elim (place_cases (below p n) (if p n then n ∷ [] else []) i v at) [
  | inl left ↦ (let more = below-passes p n i v left in let low = more.0 in (omega (arith, low), more.1))
  | inr right ↦ last (p n) refl right.0 right.2
]
  where
    last : (b : Bool) → p n ≡ b → (j : ℕ) → slice_get (if b then n ∷ [] else []) j ≡ Some v → (v < suc n) × (p v ≡ true)
    last true is zero at = (let same : n ≡ v = cc in omega (arith, same), (let same : n ≡ v = cc in ap p (sym same) ∙ is))
    last true is (suc j) at = absurd (none_there j at)
      where
        none_there : (j : ℕ) → slice_get {X = ℕ} [] j ≡ Some v → ⊥
        none_there j e = cc
    last false is j at = absurd (none_there at)
      where
        none_there : slice_get {X = ℕ} [] j ≡ Some v → ⊥
        none_there e = cc

below-has : (p : ℕ → Bool) (n v : ℕ) → v < n → p v ≡ true → (i : ℕ) × (slice_get (below p n) i ≡ Some v)
below-has p zero v low passes = absurd (omega (arith, low))
below-has p (suc n) v low passes = elim (cases_lt v n) [
  | inl before ↦ (let more = below-has p n v before passes in (more.0, place_left (below p n) (if p n then n ∷ [] else []) more.0 v more.1))
  | inr after ↦ (
      let is : n ≡ v = omega (arith, low, after) in
      (length (below p n) + 0, place_right (below p n) (if p n then n ∷ [] else []) 0 v ((λ k. slice_get (if (ap p is ∙ passes) k then n ∷ [] else []) 0) ∙ ap Some is) (length (below p n) + 0) refl))
]

-- ---- by ranks

module _ (rank_of : ℕ → ℕ) (n : ℕ) where
  abbrev has_rank : ℕ → ℕ → Bool
  has_rank r k = rank_of k == r

  -- those of lower ranks
  abbrev ranked : ℕ → List ℕ
  ranked zero = []
  ranked (suc r) = ranked r ++ below (has_rank r) n

  ranked-low : (r i v : ℕ) → slice_get (ranked r) i ≡ Some v → (v < n) × (rank_of v < r)
  ranked-low zero i v at = absurd (none_there at)
    where
      none_there : slice_get {X = ℕ} [] i ≡ Some v → ⊥
      none_there e = cc
  ranked-low (suc r) i v at = elim (place_cases (ranked r) (below (has_rank r) n) i v at) [
    | inl left ↦ (let more = ranked-low r i v left in let low = more.1 in (more.0, omega (arith, low)))
    | inr right ↦ (let more = below-passes (has_rank r) n right.0 v right.2 in let same = eqb-true (rank_of v) r more.1 in (more.0, omega (arith, same)))
  ]

  -- each has a place before the end of those of its rank
  ranked-has : (r v : ℕ) → v < n → rank_of v < r → (i : ℕ) × (slice_get (ranked r) i ≡ Some v)
  ranked-has zero v low lower = absurd (omega (arith, lower))
  ranked-has (suc r) v low lower = elim (cases_lt (rank_of v) r) [
    | inl before ↦ (let more = ranked-has r v low before in (more.0, place_left (ranked r) (below (has_rank r) n) more.0 v more.1))
    | inr after ↦ (
        let same : rank_of v ≡ r = omega (arith, lower, after) in
        let more = below-has (has_rank r) n v low (grind (arith, nat_tests)) in
        (length (ranked r) + more.0, place_right (ranked r) (below (has_rank r) n) more.0 v more.1 (length (ranked r) + more.0) refl))
  ]

  one_more : (r : ℕ) (k : ℕ) → cond {A = ℕ} (nat_lt (rank_of k) (suc r)) 1 0 ≡ cond (nat_lt (rank_of k) r) 1 0 + cond (rank_of k == r) 1 0
  one_more r k = grind (arith, nat_tests)

  passing-split : (r m : ℕ) → passing (λ k. nat_lt (rank_of k) (suc r)) m ≡ passing (λ k. nat_lt (rank_of k) r) m + passing (has_rank r) m
  passing-split r zero = refl
  passing-split r (suc m) = let rest = passing-split r m in let here = one_more r m in omega (arith, rest, here)

  none_below : (m : ℕ) → passing (λ k. nat_lt (rank_of k) 0) m ≡ 0
  none_below zero = refl
  none_below (suc m) =
      let rest = none_below m in
      let no : nat_lt (rank_of m) 0 ≡ false = grind (arith, nat_tests) in
      let here = ap (λ b. cond {A = ℕ} b 1 0) no in omega (arith, rest, here)

  ranked-length : (r : ℕ) → length (ranked r) ≡ passing (λ k. nat_lt (rank_of k) r) n
  ranked-length zero = sym (none_below n)
  ranked-length (suc r) =
      let both = length-append (ranked r) (below (has_rank r) n) in
      let rest = ranked-length r in
      let here = below-length (has_rank r) n in
      let split = passing-split r n in omega (arith, both, rest, here, split)

  all_below : (m : ℕ) → ((k : ℕ) → k < m → rank_of k < n) → passing (λ k. nat_lt (rank_of k) n) m ≡ m
  all_below zero low = refl
  all_below (suc m) low =
      let rest = all_below m (λ k before. low k (omega (arith, before))) in
      let here = ap (λ b. cond {A = ℕ} b 1 0) (lt-ltb (rank_of m) n (low m (omega arith))) in omega (arith, rest, here)

  -- those of lower ranks come first
  comes_first : (r most i v : ℕ) → r ≤ most → slice_get (ranked r) i ≡ Some v → slice_get (ranked most) i ≡ Some v
  comes_first r zero i v below' at = subst (λ r. slice_get (ranked r) i ≡ Some v) (let z : r ≡ 0 = omega (arith, below') in z) at
  comes_first r (suc most) i v below' at = elim (cases_lt most r) [
    | inl same ↦ (let is : r ≡ suc most = omega (arith, same, below') in subst (λ r. slice_get (ranked r) i ≡ Some v) is at)
    | inr before ↦ place_left (ranked most) (below (has_rank most) n) i v (comes_first r most i v before at)
  ]

  -- a place before the end of those of lower ranks is one of theirs
  is_lower : (r most i v : ℕ) → r ≤ most → i < length (ranked r) → slice_get (ranked most) i ≡ Some v → rank_of v < r
  is_lower r most i v below' before at = by (slice_get (ranked r) i) refl
    where
      past : (xs : List ℕ) (i : ℕ) → i < length xs → slice_get xs i ≡ None → ⊥
      past [] i low none = omega (arith, low)
      past (x ∷ xs) zero low none = cc
      past (x ∷ xs) (suc i) low none = past xs i (omega (arith, low)) none

      by : (o : Option ℕ) → slice_get (ranked r) i ≡ o → rank_of v < r
      by (Some w) there = let same : w ≡ v = (let here = comes_first r most i w below' there in cc) in subst (λ w. rank_of w < r) same (ranked-low r i w there).1
      by None there = absurd (past (ranked r) i before there)

-- ---- the order

pub ordered : AcyclicHaveAnOrder
ordered uses free = (order, record { size = size; whole = whole; within = λ i k at. (ranked-low (rank uses) n n i k at).0; behind = λ i user used at use' low. inl (behind i user used at use' low) })
  where
    n : ℕ
    n = length uses

    order : List ℕ
    order = ranked (rank uses) n n

    lower : (k : ℕ) → k < n → rank uses k < n
    lower k low = rank_below uses free k low

    size : length order ≡ n
    size = ranked-length (rank uses) n n ∙ all_below (rank uses) n n lower

    whole : (k : ℕ) → k < n → StandsBefore order (length order) k
    whole k low = let found = ranked-has (rank uses) n n k low (lower k low) in record { at = found.0; before = slice_get_within order found.0 k found.1; there = found.1 }

    behind : (i user used : ℕ) → slice_get order i ≡ Some user → IsUse uses user used → used < n → StandsBefore order i used
    behind i user used at use' low =
        let r = rank uses user in
        let here = (ranked-low (rank uses) n n i user at).0 in
        let falls = rank_falls uses free user used use'.at use'.there low in
        let found = ranked-has (rank uses) n r used low falls in
        let inside = slice_get_within (ranked (rank uses) n r) found.0 used found.1 in
        let most = lower user here in
        record {
          at = found.0;
          before = earlier (cases_lt i (length (ranked (rank uses) n r))) inside most;
          there = comes_first (rank uses) n r n found.0 used (omega (arith, most)) found.1;
        }
      where
        earlier : {j : ℕ} → (i < length (ranked (rank uses) n (rank uses user))) ⊎ (length (ranked (rank uses) n (rank uses user)) ≤ i) → j < length (ranked (rank uses) n (rank uses user)) → rank uses user < n → j < i
        earlier (inl inside) small most = let less = is_lower (rank uses) n (rank uses user) n i user (omega (arith, most)) inside at in absurd (omega (arith, less))
        earlier (inr past) small most = omega (arith, past, small)
