-- Arrays among declared variables, and that their elements are alike.
use Rattle.std.proofs.Common.{◌≡◌, ℕ, zero, suc, ◌+◌, ◌-◌, ◌<◌, ◌≤◌, ◌==◌, Bool, true, false, ◌&&◌, ◌||◌, nat_lt, nat_le, List, [], ◌∷◌, ◌++◌, map, get_or, replicate, refl, sym, ap, ◌∙◌, arith}
use Rattle.std.specs.Prelude.{sum, flat_map}
use Rattle.std.proofs.lemmas.Bool.{false≢true, and_parts}
use Rattle.std.proofs.lemmas.Bool.Decides.{nat_tests}
use Rattle.std.proofs.lemmas.List.Sums.{sum_by-cons}
use Rattle.spectra_judge.specs.PutIn.{is_array}

-- an array has an element, and its elements are variables
pub record IsInside (first n variables : ℕ) : Type 0 where
  pub some : 0 < n
  pub within : first + n ≤ variables

module _ (c : ℕ) (cs : List ℕ) (first n : ℕ) where
  -- an array of several variables is the first one, or one of the others
  pub record IsFirst : Type 0 where
    pub begins : first ≡ 0
    pub some : 0 < n
    pub all : n ≡ c

  pub record IsBehind : Type 0 where
    pub behind : c ≤ first
    pub array : is_array cs (first - c) n ≡ true

  pub array_cases : {P : Type 0} → is_array (c ∷ cs) first n ≡ true → (IsFirst → P) → (IsBehind → P) → P
  array_cases {P} is if_first if_behind = by (first == 0 && (nat_lt 0 n && (n == c))) refl is
    where
      by : (b : Bool) → (first == 0 && (nat_lt 0 n && (n == c))) ≡ b → (b || (nat_le c first && is_array cs (first - c) n)) ≡ true → P
      by true e h =
          let parts = and_parts (first == 0) (nat_lt 0 n && (n == c)) e in
          let more = and_parts (nat_lt 0 n) (n == c) parts.1 in
          let begins = parts.0 in
          let some = more.0 in
          let all = more.1 in if_first (record { begins = grind (arith, nat_tests); some = grind (arith, nat_tests); all = grind (arith, nat_tests) })
      by false e h =
          let parts = and_parts (nat_le c first) (is_array cs (first - c) n) h in
          let behind = parts.0 in if_behind (record { behind = grind (arith, nat_tests); array = parts.1 })

pub array_inside : (counts : List ℕ) (first n : ℕ) → is_array counts first n ≡ true → IsInside first n (sum counts)
array_inside [] first n is = absurd (false≢true is)
array_inside (c ∷ cs) first n is =
    let total : sum (c ∷ cs) ≡ c + sum cs = sum_by-cons (λ x. x) c cs in
    array_cases c cs first n is
    (λ here. record { some = here.some; within = omega (arith, total, here.begins, here.all) })
    (λ later. let inner = array_inside cs (first - c) n later.array in record { some = inner.some; within = omega (arith, total, inner.within, later.behind) })

-- ---- what so many elements of each variable have

at_first : {X : Type 0} (c : ℕ) (x : X) (rest : List X) (i : ℕ) (d : X) → i < c → get_or (replicate c x ++ rest) i d ≡ x
at_first zero x rest i d below = absurd (omega arith)
at_first (suc c) x rest zero d below = refl
at_first (suc c) x rest (suc i) d below = at_first c x rest i d (omega arith)

at_behind : {X : Type 0} (c : ℕ) (x : X) (rest : List X) (i : ℕ) (d : X) → c ≤ i → get_or (replicate c x ++ rest) i d ≡ get_or rest (i - c) d
at_behind zero x rest i d behind = let same : i ≡ i - 0 = omega arith in ap (λ j. get_or rest j d) same
at_behind (suc c) x rest zero d behind = absurd (omega arith)
at_behind (suc c) x rest (suc i) d behind = let same : i - c ≡ suc i - suc c = omega arith in at_behind c x rest i d (omega arith) ∙ ap (λ j. get_or rest j d) same

-- The elements of an array have the same, where each variable has one thing as often as it has elements.
pub are_alike : {V X : Type 0} (count : V → ℕ) (f : V → X) (d : X) (vs : List V) (first n i : ℕ) → is_array (map count vs) first n ≡ true → i < n
    → get_or (flat_map (λ v. replicate (count v) (f v)) vs) (first + i) d ≡ get_or (flat_map (λ v. replicate (count v) (f v)) vs) first d
are_alike count f d [] first n i is below = absurd (false≢true is)
are_alike {V} {X} count f d (v ∷ vs) first n i is below =
    array_cases (count v) (map count vs) first n is
    (λ here. at_first (count v) (f v) rest (first + i) d (omega (arith, here.begins, here.all)) ∙ sym (at_first (count v) (f v) rest first d (omega (arith, here.begins, here.all))))
    (λ later.
    let split : first + i - count v ≡ first - count v + i = omega (arith, later.behind) in
    at_behind (count v) (f v) rest (first + i) d (omega (arith, later.behind))
    ∙ ap (λ j. get_or rest j d) split
    ∙ are_alike count f d vs (first - count v) n i later.array below
    ∙ sym (at_behind (count v) (f v) rest first d later.behind))
  where
    rest : List X
    rest = flat_map (λ v. replicate (count v) (f v)) vs
