-- Where nothing is used in its own body, each use has a lower rank: the number of those that one reaches.
use Rattle.std.proofs.Common.{◌≡◌, ℕ, zero, suc, ◌+◌, ◌≤◌, ◌<◌, ◌==◌, Bool, true, false, ◌||◌, cond, List, [], ◌∷◌, length, Some, None, slice_get, unwrap_or, refl, sym, ap, subst, ◌∙◌, inl, inr, ◌⊎◌, arith}
use Rattle.std.specs.List.{list_any}
use Rattle.std.proofs.lemmas.Bool.{or_cases, or_right, false≢true, cases_Bool, cases_lt}
use Rattle.std.proofs.lemmas.Bool.Decides.{Decides-eqb}
use Rattle.std.proofs.lemmas.Option.{slice_get_past}
use Rattle.spectra_uses.specs.Cycles.{reaches}
use Rattle.spectra_uses.specs.Searching.{next_of}
use Rattle.spectra_uses.proofs.Reaching.{any-at, one_step, first_step, in_more_steps}

-- ---- counting

-- how many numbers below one pass a test
abbrev pub passing : (ℕ → Bool) → ℕ → ℕ
passing p zero = 0
passing p (suc n) = cond (p n) 1 0 + passing p n

one_more : (a b : Bool) → (a ≡ true → b ≡ true) → cond {A = ℕ} a 1 0 ≤ cond b 1 0
one_more true true grows = omega arith
one_more true false grows = absurd (false≢true (grows refl))
one_more false true grows = omega arith
one_more false false grows = omega arith

passing_grows : (p q : ℕ → Bool) (n : ℕ) → ((v : ℕ) → v < n → p v ≡ true → q v ≡ true) → passing p n ≤ passing q n
passing_grows p q zero grows = omega arith
passing_grows p q (suc n) grows = let rest = passing_grows p q n (λ v low. grows v (omega arith)) in let here = one_more (p n) (q n) (grows n (omega arith)) in omega arith

passing_more : (p q : ℕ → Bool) (n v : ℕ) → ((w : ℕ) → w < n → p w ≡ true → q w ≡ true) → v < n → p v ≡ false → q v ≡ true → passing p n < passing q n
passing_more p q zero v grows low here there = absurd (omega arith)
passing_more p q (suc n) v grows low here there = elim (cases_lt v n) [
  | inl before ↦ (let rest = passing_more p q n v (λ w low. grows w (omega arith)) before here there in let last = one_more (p n) (q n) (grows n (omega arith)) in omega arith)
  | inr after ↦ (
      let is : v ≡ n = omega arith in
      let none : cond {A = ℕ} (p n) 1 0 ≡ 0 = ap (λ b. cond {A = ℕ} b 1 0) (subst (λ w. p w ≡ false) is here) in
      let one : cond {A = ℕ} (q n) 1 0 ≡ 1 = ap (λ b. cond {A = ℕ} b 1 0) (subst (λ w. q w ≡ true) is there) in
      let rest = passing_grows p q n (λ w low. grows w (omega arith)) in omega arith)
]

passing_all : (p : ℕ → Bool) (n : ℕ) → passing p n ≤ n
passing_all p zero = omega arith
passing_all p (suc n) = let rest = passing_all p n in let here = one_more (p n) true (λ e. refl) in omega arith

pub passing_few : (p : ℕ → Bool) (n v : ℕ) → v < n → p v ≡ false → passing p n < n
passing_few p n v low none =
    let fewer = passing_more p (λ w. true) n v (λ w low e. refl) low none refl in
    let all = passing_all (λ w. true) n in omega arith

-- either the one test holds wherever the other does, or here it doesn't
search_below : (p q : ℕ → Bool) (n : ℕ) → ((v : ℕ) → v < n → p v ≡ true → q v ≡ true) ⊎ ((v : ℕ) × (v < n) × (p v ≡ true) × (q v ≡ false))
search_below p q zero = inl (λ v low e. absurd (omega arith))
search_below p q (suc n) = elim (search_below p q n) [
  | inr found ↦ inr (found.0, omega arith, found.2, found.3)
  | inl below ↦ elim (cases_Bool (q n)) [
    | inl holds ↦ inl (λ v low e. elim (cases_lt v n) [ inl before ↦ below v before e | inr after ↦ (let is : n ≡ v = omega arith in subst (λ w. q w ≡ true) is holds) ])
    | inr fails ↦ elim (cases_Bool (p n)) [
      | inl there ↦ inr (n, omega arith, there, fails)
      | inr none ↦ inl (λ v low e. elim (cases_lt v n) [
        | inl before ↦ below v before e
        | inr after ↦ (let is : v ≡ n = omega arith in absurd (false≢true (sym none ∙ subst (λ w. p w ≡ true) is e)))
      ])
    ]
  ]
]

-- ---- what is reached

any-found : {X : Type 0} (p : X → Bool) (xs : List X) → list_any p xs ≡ true → (i : ℕ) × (x : X) × (slice_get xs i ≡ Some x) × (p x ≡ true)
any-found p [] holds = absurd (false≢true holds)
any-found p (x ∷ xs) holds = elim (or_cases (p x) (list_any p xs) holds) [
  | inl here ↦ (0, x, refl, here)
  | inr later ↦ (let more = any-found p xs later in (suc more.0, more.1, more.2, more.3))
]

module _ (uses : List (List ℕ)) where
  prepend : (m from k v i : ℕ) → slice_get (next_of uses from) i ≡ Some k → reaches uses m k v ≡ true → reaches uses (suc m) from v ≡ true
  prepend m from k v i at there = any-at (λ k. k == v || reaches uses m k v) (next_of uses from) i k at (or_right (k == v) (reaches uses m k v) there)

  -- the last step to a number that is used
  abbrev Last : ℕ → ℕ → ℕ → Type 0
  Last steps from v = (p : ℕ) × (i : ℕ) × (reaches uses steps from p ≡ true) × (slice_get (next_of uses p) i ≡ Some v)

  at_once : (m from v i : ℕ) → slice_get (next_of uses from) i ≡ Some v → reaches uses (suc m) from v ≡ true
  at_once m from v i at = in_more_steps uses 1 (suc m) from v (omega arith) (first_step uses from v i at)

  last_step : (steps from v : ℕ) → reaches uses (suc (suc steps)) from v ≡ true → (reaches uses (suc steps) from v ≡ true) ⊎ Last (suc steps) from v
  last_step zero from v there =
      let found = any-found (λ k. k == v || reaches uses 1 k v) (next_of uses from) there in
      elim (or_cases (found.1 == v) (reaches uses 1 found.1 v) found.3) [
        | inl same ↦ inl (at_once 0 from v found.0 (found.2 ∙ ap Some ((Decides-eqb found.1 v).0 same)))
        | inr later ↦ (
            let more = any-found (λ k. k == v || reaches uses 0 k v) (next_of uses found.1) later in
            elim (or_cases (more.1 == v) (reaches uses 0 more.1 v) more.3) [
              | inl same ↦ inr (found.1, more.0, at_once 0 from found.1 found.0 found.2, more.2 ∙ ap Some ((Decides-eqb more.1 v).0 same))
              | inr never ↦ absurd (false≢true never)
            ])
      ]
  last_step (suc steps) from v there =
      let found = any-found (λ k. k == v || reaches uses (suc (suc steps)) k v) (next_of uses from) there in
      elim (or_cases (found.1 == v) (reaches uses (suc (suc steps)) found.1 v) found.3) [
        | inl same ↦ inl (at_once (suc steps) from v found.0 (found.2 ∙ ap Some ((Decides-eqb found.1 v).0 same)))
        | inr later ↦ elim (last_step steps found.1 v later) [
          | inl sooner ↦ inl (prepend (suc steps) from found.1 v found.0 found.2 sooner)
          | inr last ↦ inr (last.0, last.1, prepend (suc steps) from found.1 last.0 found.0 found.2 last.2, last.3)
        ]
      ]

  using : (p i v : ℕ) → slice_get (next_of uses p) i ≡ Some v → p < length uses
  using p i v at = elim (cases_lt p (length uses)) [
    | inl low ↦ low
    | inr past ↦ absurd (none_there (sym (ap (λ o. slice_get (unwrap_or o []) i) (slice_get_past uses p past)) ∙ at))
  ]
    where
      none_there : None ≡ Some v → ⊥
      none_there e = cc

  module _ (from : ℕ) where
    -- one more step reaches nothing more
    abbrev IsStable : ℕ → Type 0
    IsStable n = (v : ℕ) → v < length uses → reaches uses (suc n) from v ≡ true → reaches uses n from v ≡ true

    still_stable : (n : ℕ) → IsStable n → IsStable (suc n)
    still_stable n stable v low there = elim (last_step n from v there) [
      | inl sooner ↦ sooner
      | inr last ↦ one_step uses n from last.0 v last.1 (stable last.0 (using last.0 last.1 v last.3) last.2) last.3
    ]

    in_time : (n : ℕ) → IsStable n ⊎ (n ≤ passing (reaches uses n from) (length uses))
    in_time zero = inr (omega arith)
    in_time (suc n) = elim (in_time n) [
      | inl stable ↦ inl (still_stable n stable)
      | inr many ↦ elim (search_below (reaches uses (suc n) from) (reaches uses n from) (length uses)) [
        | inl stable ↦ inl (still_stable n stable)
        | inr new ↦ (
            let more = passing_more (reaches uses n from) (reaches uses (suc n) from) (length uses) new.0 (λ w low there. in_more_steps uses n (suc n) from w (omega arith) there) new.1 new.3 new.2 in
            inr (omega arith))
      ]
    ]

    stable_at_last : IsStable (length uses)
    stable_at_last = elim (in_time (length uses)) [
      | inl stable ↦ stable
      | inr all ↦ (λ v low there. elim (cases_Bool (reaches uses (length uses) from v)) [
        | inl reached ↦ reached
        | inr not_reached ↦ (let few = passing_few (reaches uses (length uses) from) (length uses) v low not_reached in absurd (omega arith))
      ])
    ]

  -- how many numbers one reaches
  pub rank : ℕ → ℕ
  rank k = passing (reaches uses (length uses) k) (length uses)

  -- none is used in its own body
  abbrev pub NoCycle : Type 0
  NoCycle = (k : ℕ) → k < length uses → reaches uses (length uses) k k ≡ false

  pub rank_below : NoCycle → (k : ℕ) → k < length uses → rank k < length uses
  unfolding rank
  rank_below no_cycle k low = passing_few (reaches uses (length uses) k) (length uses) k low (no_cycle k low)

  pub rank_falls : NoCycle → (k j i : ℕ) → slice_get (next_of uses k) i ≡ Some j → j < length uses → rank j < rank k
  unfolding rank
  rank_falls no_cycle k j i at low =
      passing_more (reaches uses (length uses) j) (reaches uses (length uses) k) (length uses) j
      (λ v low there. stable_at_last k v low (prepend (length uses) k j v i at there)) low (no_cycle j low)
      (in_more_steps uses 1 (length uses) k j (omega arith) (first_step uses k j i at))
