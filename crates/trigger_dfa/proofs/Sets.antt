-- Lists of positions as sets, and which positions an expression has.
use Rattle.std.proofs.Common.{◌≡◌, ℕ, suc, ◌+◌, ◌<◌, ◌≤◌, ◌==◌, ◌⊎◌, inl, inr, Bool, true, false, cond, ◌&&◌, ◌||◌, List, [], ◌∷◌, ◌++◌, length, flat_map, refl, sym, ◌∙◌, subst, arith, length-append}
use Rattle.std.proofs.lemmas.Bool.{and_parts, and_from, or_cases, or_left, or_right, false≢true, eqb-true, eq-eqb}
use Rattle.std.proofs.lemmas.List.Folds.{list_any-append}
use Rattle.std.specs.List.{list_any}
use Rattle.spec_model.specs.Syntax.{Formula}
use Rattle.trigger_dfa.specs.Words.{tells}
use Rattle.spec_model.specs.TriggerStates.{Written, Bracket, Empty, Then, Either, Star, Positions, brackets, is_skipped, firsts, lasts, has, followers, members, read_of, has_last}

-- ---- membership

pub has_cases : (xs ys : List ℕ) (p : ℕ) → has (xs ++ ys) p ≡ true → (has xs p ≡ true) ⊎ (has ys p ≡ true)
has_cases xs ys p e = or_cases (has xs p) (has ys p) (sym (list_any-append (λ m. m == p) xs ys) ∙ e)

pub has_left : (xs ys : List ℕ) (p : ℕ) → has xs p ≡ true → has (xs ++ ys) p ≡ true
has_left xs ys p e = list_any-append (λ m. m == p) xs ys ∙ or_left (has xs p) (has ys p) e

pub has_right : (xs ys : List ℕ) (p : ℕ) → has ys p ≡ true → has (xs ++ ys) p ≡ true
has_right xs ys p e = list_any-append (λ m. m == p) xs ys ∙ or_right (has xs p) (has ys p) e

pub has_where : (b : Bool) (xs : List ℕ) (p : ℕ) → has (cond b xs []) p ≡ true → (b ≡ true) × (has xs p ≡ true)
has_where true xs p e = (refl, e)
has_where false xs p e = absurd (false≢true e)

pub has_if : (b : Bool) (xs : List ℕ) (p : ℕ) → b ≡ true → has xs p ≡ true → has (cond b xs []) p ≡ true
has_if true xs p is e = e
has_if false xs p is e = absurd (false≢true is)

pub has_flat : (f : ℕ → List ℕ) (xs : List ℕ) (p : ℕ) → has (flat_map f xs) p ≡ true → (q : ℕ) × (has xs q ≡ true) × (has (f q) p ≡ true)
has_flat f [] p e = absurd (false≢true e)
has_flat f (x ∷ xs) p e =
    elim (has_cases (f x) (flat_map f xs) p e) [
      | inl here ↦ (x, or_left (x == x) (has xs x) (eq-eqb x x refl), here)
      | inr later ↦ let more = has_flat f xs p later in (more.0, or_right (x == more.0) (has xs more.0) more.1, more.2)
    ]

pub flat_has : (f : ℕ → List ℕ) (xs : List ℕ) (q p : ℕ) → has xs q ≡ true → has (f q) p ≡ true → has (flat_map f xs) p ≡ true
flat_has f [] q p e h = absurd (false≢true e)
flat_has f (x ∷ xs) q p e h =
    elim (or_cases (x == q) (has xs q) e) [
      | inl same ↦ has_left (f x) (flat_map f xs) p (subst (λ (y : ℕ). has (f y) p ≡ true) (sym (eqb-true x q same)) h)
      | inr other ↦ has_right (f x) (flat_map f xs) p (flat_has f xs q p other h)
    ]

-- ---- the formula of a position

pub tells_range : (test : Formula → Bool) (n : ℕ) (es : List Formula) (p : ℕ) → tells test n es p ≡ true → (n ≤ p) × (p < n + length es)
tells_range test n [] p e = absurd (false≢true e)
tells_range test n (x ∷ es) p e =
    elim (or_cases (n == p && test x) (tells test (suc n) es p) e) [
      | inl here ↦ let same = eqb-true n p (and_parts (n == p) (test x) here).0 in (omega arith, omega arith)
      | inr later ↦ let more = tells_range test (suc n) es p later in (omega (arith, more.0), omega (arith, more.1))
    ]

pub tells_left : (test : Formula → Bool) (n : ℕ) (xs ys : List Formula) (p : ℕ) → tells test n xs p ≡ true → tells test n (xs ++ ys) p ≡ true
tells_left test n [] ys p e = absurd (false≢true e)
tells_left test n (x ∷ xs) ys p e =
    elim (or_cases (n == p && test x) (tells test (suc n) xs p) e) [
      | inl here ↦ or_left (n == p && test x) (tells test (suc n) (xs ++ ys) p) here
      | inr later ↦ or_right (n == p && test x) (tells test (suc n) (xs ++ ys) p) (tells_left test (suc n) xs ys p later)
    ]

shifted : (n k : ℕ) → n + suc k ≡ suc n + k
shifted n k = omega arith

pub tells_right : (test : Formula → Bool) (n : ℕ) (xs ys : List Formula) (p : ℕ) → tells test (n + length xs) ys p ≡ true → tells test n (xs ++ ys) p ≡ true
tells_right test n [] ys p e = let same : n + 0 ≡ n = omega arith in subst (λ (m : ℕ). tells test m ys p ≡ true) same e
tells_right test n (x ∷ xs) ys p e =
    or_right (n == p && test x) (tells test (suc n) (xs ++ ys) p)
    (tells_right test (suc n) xs ys p (subst (λ (m : ℕ). tells test m ys p ≡ true) (shifted n (length xs)) e))

pub tells_cases : (test : Formula → Bool) (n : ℕ) (xs ys : List Formula) (p : ℕ) → tells test n (xs ++ ys) p ≡ true →
    (tells test n xs p ≡ true) ⊎ (tells test (n + length xs) ys p ≡ true)
tells_cases test n [] ys p e = let same : n ≡ n + 0 = omega arith in inr (subst (λ (m : ℕ). tells test m ys p ≡ true) same e)
tells_cases test n (x ∷ xs) ys p e =
    elim (or_cases (n == p && test x) (tells test (suc n) (xs ++ ys) p) e) [
      | inl here ↦ inl (or_left (n == p && test x) (tells test (suc n) xs p) here)
      | inr later ↦ elim (tells_cases test (suc n) xs ys p later) [
        | inl more ↦ inl (or_right (n == p && test x) (tells test (suc n) xs p) more)
        | inr more ↦ inr (subst (λ (m : ℕ). tells test m ys p ≡ true) (sym (shifted n (length xs))) more)
      ]
    ]

-- ---- where an expression's positions stand

abbrev pub InRange : ℕ → Written → ℕ → Type 0
InRange n w p = (n ≤ p) × (p < n + length (brackets w))

only : (n p : ℕ) → has (n ∷ []) p ≡ true → n ≡ p
only n p e = elim (or_cases (n == p) false e) [ inl same ↦ eqb-true n p same | inr none ↦ absurd (false≢true none) ]

module _ (n : ℕ) (a b : Written) (p : ℕ) where
  left_range : InRange n a p → InRange n (Then a b) p
  left_range h = (h.0, omega (arith, h.1, length-append (brackets a) (brackets b)))

  right_range : InRange (n + length (brackets a)) b p → InRange n (Then a b) p
  right_range h = (omega (arith, h.0), omega (arith, h.1, length-append (brackets a) (brackets b)))

pub firsts_range : (n : ℕ) (w : Written) (p : ℕ) → has (firsts n w) p ≡ true → InRange n w p
firsts_range n (Bracket e) p h = let same = only n p h in (omega arith, omega arith)
firsts_range n Empty p h = absurd (false≢true h)
firsts_range n (Then a b) p h =
    elim (has_cases (firsts n a) (cond (is_skipped a) (firsts (n + length (brackets a)) b) []) p h) [
      | inl x ↦ left_range n a b p (firsts_range n a p x)
      | inr x ↦ right_range n a b p (firsts_range (n + length (brackets a)) b p (has_where (is_skipped a) (firsts (n + length (brackets a)) b) p x).1)
    ]
firsts_range n (Either a b) p h =
    elim (has_cases (firsts n a) (firsts (n + length (brackets a)) b) p h) [
      | inl x ↦ left_range n a b p (firsts_range n a p x)
      | inr x ↦ right_range n a b p (firsts_range (n + length (brackets a)) b p x)
    ]
firsts_range n (Star a) p h = firsts_range n a p h

pub lasts_range : (n : ℕ) (w : Written) (p : ℕ) → has (lasts n w) p ≡ true → InRange n w p
lasts_range n (Bracket e) p h = let same = only n p h in (omega arith, omega arith)
lasts_range n Empty p h = absurd (false≢true h)
lasts_range n (Then a b) p h =
    elim (has_cases (cond (is_skipped b) (lasts n a) []) (lasts (n + length (brackets a)) b) p h) [
      | inl x ↦ left_range n a b p (lasts_range n a p (has_where (is_skipped b) (lasts n a) p x).1)
      | inr x ↦ right_range n a b p (lasts_range (n + length (brackets a)) b p x)
    ]
lasts_range n (Either a b) p h =
    elim (has_cases (lasts n a) (lasts (n + length (brackets a)) b) p h) [
      | inl x ↦ left_range n a b p (lasts_range n a p x)
      | inr x ↦ right_range n a b p (lasts_range (n + length (brackets a)) b p x)
    ]
lasts_range n (Star a) p h = lasts_range n a p h

pub followers_range : (n : ℕ) (w : Written) (q p : ℕ) → has (followers n w q) p ≡ true → InRange n w q × InRange n w p
followers_range n (Bracket e) q p h = absurd (false≢true h)
followers_range n Empty q p h = absurd (false≢true h)
followers_range n (Then a b) q p h =
    elim (has_cases (followers n a q) (followers (n + length (brackets a)) b q ++ cond (has (lasts n a) q) (firsts (n + length (brackets a)) b) []) p h) [
      | inl x ↦ let f = followers_range n a q p x in (left_range n a b q f.0, left_range n a b p f.1)
      | inr y ↦ elim (has_cases (followers (n + length (brackets a)) b q) (cond (has (lasts n a) q) (firsts (n + length (brackets a)) b) []) p y) [
        | inl x ↦ let f = followers_range (n + length (brackets a)) b q p x in (right_range n a b q f.0, right_range n a b p f.1)
        | inr x ↦ let f = has_where (has (lasts n a) q) (firsts (n + length (brackets a)) b) p x in
            (left_range n a b q (lasts_range n a q f.0), right_range n a b p (firsts_range (n + length (brackets a)) b p f.1))
      ]
    ]
followers_range n (Either a b) q p h =
    elim (has_cases (followers n a q) (followers (n + length (brackets a)) b q) p h) [
      | inl x ↦ let f = followers_range n a q p x in (left_range n a b q f.0, left_range n a b p f.1)
      | inr x ↦ let f = followers_range (n + length (brackets a)) b q p x in (right_range n a b q f.0, right_range n a b p f.1)
    ]
followers_range n (Star a) q p h =
    elim (has_cases (followers n a q) (cond (has (lasts n a) q) (firsts n a) []) p h) [
      | inl x ↦ followers_range n a q p x
      | inr x ↦ let f = has_where (has (lasts n a) q) (firsts n a) p x in (lasts_range n a q f.0, firsts_range n a p f.1)
    ]

-- ---- sets that were read

members_from : (n : ℕ) (bs : Positions) (p : ℕ) → has (members n bs) p ≡ true → n ≤ p
members_from n [] p h = absurd (false≢true h)
members_from n (true ∷ bs) p h =
    elim (or_cases (n == p) (has (members (suc n) bs) p) h) [
      | inl same ↦ let e = eqb-true n p same in omega arith
      | inr later ↦ let more = members_from (suc n) bs p later in omega arith
    ]
members_from n (false ∷ bs) p h = let more = members_from (suc n) bs p h in omega arith

-- a position was read exactly where it could be, and its formula holds
module _ (test : Formula → Bool) (ps : List ℕ) (n : ℕ) (x : Formula) (es : List Formula) (p : ℕ) where
  read_one : (b : Bool) → (has ps n && test x) ≡ b →
      (has (members (suc n) (read_of test ps (suc n) es)) p ≡ true → (has ps p ≡ true) × (tells test (suc n) es p ≡ true)) →
      has (cond b (n ∷ members (suc n) (read_of test ps (suc n) es)) (members (suc n) (read_of test ps (suc n) es))) p ≡ true →
      (has ps p ≡ true) × (((n == p && test x) || tells test (suc n) es p) ≡ true)
  read_one true is more h =
      elim (or_cases (n == p) (has (members (suc n) (read_of test ps (suc n) es)) p) h) [
        | inl same ↦ let q = and_parts (has ps n) (test x) is in
            (subst (λ (m : ℕ). has ps m ≡ true) (eqb-true n p same) q.0, or_left (n == p && test x) (tells test (suc n) es p) (and_from (n == p) (test x) same q.1))
        | inr later ↦ let m = more later in (m.0, or_right (n == p && test x) (tells test (suc n) es p) m.1)
      ]
  read_one false is more h = let m = more h in (m.0, or_right (n == p && test x) (tells test (suc n) es p) m.1)

  one_read : (b : Bool) → (has ps n && test x) ≡ b →
      (tells test (suc n) es p ≡ true → has (members (suc n) (read_of test ps (suc n) es)) p ≡ true) →
      has ps p ≡ true → ((n == p && test x) || tells test (suc n) es p) ≡ true →
      has (cond b (n ∷ members (suc n) (read_of test ps (suc n) es)) (members (suc n) (read_of test ps (suc n) es))) p ≡ true
  one_read true is more h e =
      elim (or_cases (n == p && test x) (tells test (suc n) es p) e) [
        | inl here ↦ or_left (n == p) (has (members (suc n) (read_of test ps (suc n) es)) p) (and_parts (n == p) (test x) here).0
        | inr later ↦ or_right (n == p) (has (members (suc n) (read_of test ps (suc n) es)) p) (more later)
      ]
  one_read false is more h e =
      elim (or_cases (n == p && test x) (tells test (suc n) es p) e) [
        | inl here ↦ let q = and_parts (n == p) (test x) here in
            absurd (false≢true (sym is ∙ and_from (has ps n) (test x) (subst (λ (m : ℕ). has ps m ≡ true) (sym (eqb-true n p q.0)) h) q.1))
        | inr later ↦ more later
      ]

pub read_members : (test : Formula → Bool) (ps : List ℕ) (n : ℕ) (es : List Formula) (p : ℕ) →
    has (members n (read_of test ps n es)) p ≡ true → (has ps p ≡ true) × (tells test n es p ≡ true)
read_members test ps n [] p h = absurd (false≢true h)
read_members test ps n (x ∷ es) p h = read_one test ps n x es p (has ps n && test x) refl (read_members test ps (suc n) es p) h

pub members_read : (test : Formula → Bool) (ps : List ℕ) (n : ℕ) (es : List Formula) (p : ℕ) → has ps p ≡ true → tells test n es p ≡ true →
    has (members n (read_of test ps n es)) p ≡ true
members_read test ps n [] p h e = absurd (false≢true e)
members_read test ps n (x ∷ es) p h e = one_read test ps n x es p (has ps n && test x) refl (members_read test ps (suc n) es p h) h e

any_of : (test : ℕ → Bool) (xs : List ℕ) → list_any test xs ≡ true → (p : ℕ) × (has xs p ≡ true) × (test p ≡ true)
any_of test [] e = absurd (false≢true e)
any_of test (x ∷ xs) e =
    elim (or_cases (test x) (list_any test xs) e) [
      | inl here ↦ (x, or_left (x == x) (has xs x) (eq-eqb x x refl), here)
      | inr later ↦ let more = any_of test xs later in (more.0, or_right (x == more.0) (has xs more.0) more.1, more.2)
    ]

of_any : (test : ℕ → Bool) (xs : List ℕ) (p : ℕ) → has xs p ≡ true → test p ≡ true → list_any test xs ≡ true
of_any test [] p h e = absurd (false≢true h)
of_any test (x ∷ xs) p h e =
    elim (or_cases (x == p) (has xs p) h) [
      | inl same ↦ or_left (test x) (list_any test xs) (subst (λ (m : ℕ). test m ≡ true) (sym (eqb-true x p same)) e)
      | inr other ↦ or_right (test x) (list_any test xs) (of_any test xs p other e)
    ]

pub last_of : (w : Written) (set : Positions) → has_last w set ≡ true → (p : ℕ) × (has (members 0 set) p ≡ true) × (has (lasts 0 w) p ≡ true)
last_of w set e = any_of (has (lasts 0 w)) (members 0 set) e

pub of_last : (w : Written) (set : Positions) (p : ℕ) → has (members 0 set) p ≡ true → has (lasts 0 w) p ≡ true → has_last w set ≡ true
of_last w set p h e = of_any (has (lasts 0 w)) (members 0 set) p h e
