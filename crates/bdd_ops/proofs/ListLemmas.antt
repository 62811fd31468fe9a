-- Lists of levels, read from the front.
use Rattle.std.proofs.Common.{◌≡◌, ℕ, zero, suc, ◌+◌, ◌<◌, ◌≤◌, ◌⊎◌, inl, inr, sym, ◌∙◌, ap, refl, arith, Bool, true, false, ◌||◌, ◌==◌, List, [], ◌∷◌, ◌++◌, length, take, get_or, set, get_or-set_same, get_or-set_other}
use Rattle.std.proofs.lemmas.Bool.Decides.{eqb_tells}
use Rattle.std.proofs.lemmas.Grind.{take_at_read}
use Rattle.bdd_ops.specs.Functions.{is_among}

or_assoc : (a b c : Bool) → (a || (b || c)) ≡ ((a || b) || c)
or_assoc true b c = refl
or_assoc false b c = refl

or_true : (a : Bool) → (a || true) ≡ true
or_true true = refl
or_true false = refl

or_false : (a : Bool) → (a || false) ≡ a
or_false true = refl
or_false false = refl

or_cases : (a b : Bool) → (a || b) ≡ true → (a ≡ true) ⊎ (b ≡ true)
or_cases true b is = inl refl
or_cases false b is = inr is

-- one more level at the end
pub is_among-append : (m : ℕ) (xs : List ℕ) (y : ℕ) → is_among m (xs ++ y ∷ []) ≡ (is_among m xs || (m == y))
is_among-append m [] y = or_false (m == y)
is_among-append m (x ∷ xs) y = ap (λ b. (m == x) || b) (is_among-append m xs y) ∙ or_assoc (m == x) (is_among m xs) (m == y)

pub among_more : (xs : List ℕ) (i m : ℕ) → i < length xs → is_among m (take (i + 1) xs) ≡ (is_among m (take i xs) || (m == get_or xs i 0))
among_more xs i m within = ap (is_among m) (take_at_read xs i 0 within).1 ∙ is_among-append m (take i xs) (get_or xs i 0)

-- a level that is read is in the list
pub among_read : (xs : List ℕ) (i : ℕ) → i < length xs → is_among (get_or xs i 0) (take (i + 1) xs) ≡ true
among_read xs i within =
    among_more xs i (get_or xs i 0) within ∙ (elim (eqb_tells (get_or xs i 0) (get_or xs i 0)) [
      | inl same ↦ rw same.0 (or_true (is_among (get_or xs i 0) (take i xs)))
      | inr apart ↦ absurd (apart.1 refl)
    ])

same_numbers : (a b : ℕ) → (a == b) ≡ true → a ≡ b
same_numbers a b is = elim (eqb_tells a b) [ inl same ↦ same.1 | inr apart ↦ cc ]

-- a bound over the levels so far, and one more
pub below_more_levels : (xs : List ℕ) (i end new_end : ℕ) → i < length xs → ((m : ℕ) → is_among m (take i xs) ≡ true → m < end) → end ≤ new_end → get_or xs i 0 < new_end → (m : ℕ) → is_among m (take (i + 1) xs) ≡ true → m < new_end
below_more_levels xs i end new_end within below le own m among =
    elim (or_cases (is_among m (take i xs)) (m == get_or xs i 0) (sym (among_more xs i m within) ∙ among)) [
      | inl before ↦ (let h : m < end = below m before in omega arith)
      | inr is ↦ (let h : m ≡ get_or xs i 0 = same_numbers m (get_or xs i 0) is in omega arith)
    ]

-- the flags so far, and one more
pub flags_more : (xs : List ℕ) (i : ℕ) (flags : List Bool) → i < length xs → get_or xs i 0 < length flags → ((m : ℕ) → get_or flags m false ≡ is_among m (take i xs)) → (m : ℕ) → get_or (set flags (get_or xs i 0) true) m false ≡ is_among m (take (i + 1) xs)
flags_more xs i flags within inside agree m =
    elim (eqb_tells m (get_or xs i 0)) [
      | inl same ↦ (
          let flag : get_or (set flags (get_or xs i 0) true) m false ≡ true = rw same.1 (get_or-set_same flags (get_or xs i 0) true false inside) in
          let own : (is_among m (take i xs) || (m == get_or xs i 0)) ≡ true = rw same.0 (or_true (is_among m (take i xs))) in
          flag ∙ sym (among_more xs i m within ∙ own))
      | inr apart ↦ (
          let flag : get_or (set flags (get_or xs i 0) true) m false ≡ is_among m (take i xs) = get_or-set_other flags (get_or xs i 0) m true false apart.1 ∙ agree m in
          let others : (is_among m (take i xs) || (m == get_or xs i 0)) ≡ is_among m (take i xs) = rw apart.0 (or_false (is_among m (take i xs))) in
          flag ∙ sym (among_more xs i m within ∙ others))
    ]

or_left : (a b : Bool) → a ≡ true → (a || b) ≡ true
or_left true b is = refl
or_left false b is = cc

-- a level among the first is among all
pub among_all : (xs : List ℕ) (i m : ℕ) → i < length xs → (get_or xs i 0 ≡ m) → is_among m xs ≡ true
among_all [] i m within is = absurd (omega arith)
among_all (x ∷ xs) zero m within is = (elim (eqb_tells m x) [ inl same ↦ or_left (m == x) (is_among m xs) same.0 | inr apart ↦ absurd (apart.1 (sym is)) ])
among_all (x ∷ xs) (suc i) m within is = ap (λ b. (m == x) || b) (among_all xs i m (omega arith) is) ∙ or_true (m == x)

-- the last of a list
pub at_end : {X : Type 0} (xs : List X) (x d : X) → get_or (xs ++ x ∷ []) (length xs) d ≡ x
at_end [] x d = refl
at_end (y ∷ xs) x d = at_end xs x d

-- what stands before it
pub before_end : {X : Type 0} (xs : List X) (x d : X) (i : ℕ) → i < length xs → get_or (xs ++ x ∷ []) i d ≡ get_or xs i d
before_end [] x d i within = absurd (omega arith)
before_end (y ∷ xs) x d zero within = refl
before_end (y ∷ xs) x d (suc i) within = before_end xs x d i (omega arith)
