-- How many levels operators are around what stands before them, and what is left of a limit.
use Rattle.std.proofs.Common.{◌≡◌, ℕ, suc, ◌+◌, ◌-◌, ◌<◌, ◌≤◌, max, nat_le, Bool, true, false, not, ◌&&◌, if◌then◌else◌, List, [], ◌∷◌, length, map, refl, sym, ap, ◌∙◌, arith}
use Rattle.std.proofs.lemmas.Bool.Decides.{nat_tests}
use Rattle.spectra_resolved.specs.Resolved.{ResolvedTree, tree, Form}
use Rattle.spectra_resolved.specs.Chained.{LinkData, joined, chained}
use Rattle.spectra_copies.specs.Levels.{tree_levels, form_levels, is_row_word, is_row, first_levels}
use Rattle.spectra_copies.specs.Links.{ends_row, link_levels, are_flat_above}

-- the greater of two is within a limit where both are
pub max_le : (a b n : ℕ) → nat_le (max a b) n ≡ (nat_le a n && nat_le b n)
max_le a b n = by (nat_le a n) refl
  where
    by : (p : Bool) → nat_le a n ≡ p → nat_le (max a b) n ≡ (p && nat_le b n)
    by true e = second (nat_le b n) refl
      where
        second : (q : Bool) → nat_le b n ≡ q → nat_le (max a b) n ≡ q
        second true f = let small : a ≤ n = grind (arith, nat_tests) in let low : b ≤ n = grind (arith, nat_tests) in let both : max a b ≤ n = omega (arith, small, low) in grind (arith, nat_tests)
        second false f = let high : n < b = grind (arith, nat_tests) in let both : n < max a b = omega (arith, high) in grind (arith, nat_tests)
    by false e = let high : n < a = grind (arith, nat_tests) in let both : n < max a b = omega (arith, high) in grind (arith, nat_tests)

pub le-suc : (a n : ℕ) → nat_le (1 + a) (n + 1) ≡ nat_le a n
le-suc a n = by (nat_le a n) refl
  where
    by : (p : Bool) → nat_le a n ≡ p → nat_le (1 + a) (n + 1) ≡ p
    by true e = grind (arith, nat_tests)
    by false e = grind (arith, nat_tests)

and_assoc : (p q r : Bool) → ((p && q) && r) ≡ (p && (q && r))
and_assoc true q r = refl
and_assoc false q r = refl

and-true : (p : Bool) → (p && true) ≡ p
and-true true = refl
and-true false = refl

-- ---- operators behind an expression

-- the first operand of an operator within a limit, where the operator isn't the last one of its row
first_inside : (t : ResolvedTree) (l : LinkData) (word : Bool) → is_row_word l.word ≡ word → (n : ℕ) → first_levels l.word t n ≡ (if word && is_row t then n - 1 else n)
first_inside t l word is n = λ i. if is i && is_row t then n - 1 else n

-- an operator behind an expression, as the first operand of one that follows
follows : (t : ResolvedTree) (l m : LinkData) (first : ℕ) (p q : Bool) → is_row_word l.word ≡ p → is_row_word m.word ≡ q
    → nat_le (first_levels m.word (joined t l) (tree_levels (joined t l))) (first + (if not (p && q) then 1 else 0)) ≡ (nat_le (first_levels l.word t (tree_levels t)) first && nat_le (tree_levels l.second) first)
follows t l m first p q own next =
    (λ i. nat_le (if next i && own i then tree_levels (joined t l) - 1 else tree_levels (joined t l)) (first + (if not (p && q) then 1 else 0)))
    ∙ by p q
    ∙ max_le (first_levels l.word t (tree_levels t)) (tree_levels l.second) first
  where
    inner : ℕ
    inner = max (first_levels l.word t (tree_levels t)) (tree_levels l.second)

    one : nat_le (1 + inner) (first + 1) ≡ nat_le inner first
    one = le-suc inner first

    none : nat_le ((1 + inner) - 1) (first + 0) ≡ nat_le inner first
    none = (let less : (1 + inner) - 1 ≡ inner = omega arith in let same : first + 0 ≡ first = omega arith in λ i. nat_le (less i) (same i))

    by : (p q : Bool) → nat_le (if q && p then (1 + inner) - 1 else (1 + inner)) (first + (if not (p && q) then 1 else 0)) ≡ nat_le inner first
    by true true = none
    by true false = one
    by false true = one
    by false false = one

-- operators are within a limit where the first operand and all others are
behind_levels : (t : ResolvedTree) (l : LinkData) (ls : List LinkData) (first : ℕ)
    → nat_le (tree_levels (chained t (l ∷ ls))) (first + link_levels (l ∷ ls)) ≡ (nat_le (first_levels l.word t (tree_levels t)) first && are_flat_above first (l ∷ ls))
behind_levels t l [] first =
    le-suc (max (first_levels l.word t (tree_levels t)) (tree_levels l.second)) first
    ∙ max_le (first_levels l.word t (tree_levels t)) (tree_levels l.second) first
    ∙ ap (λ p. nat_le (first_levels l.word t (tree_levels t)) first && p) (sym (and-true (nat_le (tree_levels l.second) first)))
behind_levels t l (m ∷ ls) first =
    let more = if ends_row l (m ∷ ls) then 1 else 0 in
    let split : first + (more + link_levels (m ∷ ls)) ≡ (first + more) + link_levels (m ∷ ls) = omega arith in
    ap (nat_le (tree_levels (chained (joined t l) (m ∷ ls)))) split
    ∙ behind_levels (joined t l) m ls (first + more)
    ∙ ap (λ p. p && are_flat_above (first + more) (m ∷ ls)) (follows t l m first (is_row_word l.word) (is_row_word m.word) refl refl)
    ∙ and_assoc (nat_le (first_levels l.word t (tree_levels t)) first) (nat_le (tree_levels l.second) first) (are_flat_above (first + more) (m ∷ ls))

-- what is no row itself is no part of the first one behind it
apart : (t : ResolvedTree) (l : LinkData) → is_row t ≡ false → first_levels l.word t (tree_levels t) ≡ tree_levels t
apart t l is = by (is_row_word l.word) refl
  where
    by : (p : Bool) → is_row_word l.word ≡ p → first_levels l.word t (tree_levels t) ≡ tree_levels t
    by true own = λ i. if own i && is i then tree_levels t - 1 else tree_levels t
    by false own = λ i. if own i && is_row t then tree_levels t - 1 else tree_levels t

pub row_levels : (t : ResolvedTree) (ls : List LinkData) (first : ℕ) → is_row t ≡ false → nat_le (tree_levels (chained t ls)) (first + link_levels ls) ≡ (nat_le (tree_levels t) first && are_flat_above first ls)
row_levels t [] first is = (let same : first + 0 ≡ first = omega arith in ap (nat_le (tree_levels t)) same) ∙ sym (and-true (nat_le (tree_levels t) first))
row_levels t (l ∷ ls) first is = behind_levels t l ls first ∙ ap (λ n. nat_le n first && are_flat_above first (l ∷ ls)) (apart t l is)

-- ---- nodes

pub some_levels : (form : Form) → 1 ≤ form_levels form
some_levels (Form.LeafOf l) = omega arith
some_levels (Form.PredicateOf k ts) = omega arith
some_levels (Form.MisuseOf m ts) = omega arith
some_levels (Form.Next t) = omega arith
some_levels (Form.Prefix word t) = omega arith
some_levels (Form.Binary word a b) = omega arith
some_levels (Form.Mod t number_at n) = omega arith
some_levels (Form.And ts operators) = omega arith
some_levels (Form.Or ts operators) = omega arith
some_levels (Form.Index first n t) = omega arith
some_levels (Form.Quantified word variable extent low high ts) = omega arith

-- each expression has a level
pub no_levels : (t : ResolvedTree) → nat_le (tree_levels t) 0 ≡ false
no_levels (tree first at form) = let some = some_levels form in grind (arith, nat_tests)

-- operators are as many levels as they have rows, and what stands before them is one more
pub row_deep : (t : ResolvedTree) (ls : List LinkData) (limit : ℕ) → is_row t ≡ false → limit ≤ link_levels ls → nat_le (tree_levels (chained t ls)) limit ≡ false
row_deep t ls limit is small = by (nat_le (tree_levels (chained t ls)) limit) refl
  where
    none : nat_le (tree_levels (chained t ls)) (0 + link_levels ls) ≡ false
    none = row_levels t ls 0 is ∙ ap (λ p. p && are_flat_above 0 ls) (no_levels t)

    by : (p : Bool) → nat_le (tree_levels (chained t ls)) limit ≡ p → p ≡ false
    by true e = let past = none in grind (arith, nat_tests)
    by false e = refl

pub lowered : (n limit : ℕ) → 0 < limit → nat_le n (limit - 1) ≡ nat_le (1 + n) limit
lowered n limit some = by (nat_le n (limit - 1)) refl
  where
    by : (p : Bool) → nat_le n (limit - 1) ≡ p → p ≡ nat_le (1 + n) limit
    by true e = grind (arith, nat_tests)
    by false e = grind (arith, nat_tests)
