-- What is built of operators behind a first operand, one after another.
use Rattle.std.proofs.Common.{◌≡◌, ℕ, zero, suc, ◌+◌, ◌-◌, ◌<◌, ◌≤◌, true, false, List, [], ◌∷◌, length, map, take, drop, get_or, refl, sym, ap, ◌∙◌, arith}
use Rattle.spec_model.specs.Syntax.{Formulas, formulas, listed}
use Rattle.spectra_resolved.specs.declared.tree.Link.{Link}
use Rattle.spectra_resolved.specs.Resolved.{ResolvedTree, tree}
use Rattle.spectra_resolved.specs.Chained.{chained}
use Rattle.spectra_resolved.specs.Views.{resolved_data, link_data}
use Rattle.spectra_copies.specs.Levels.{is_row_word}
use Rattle.spectra_judge.specs.Known.{Known}
use Rattle.spectra_cases.specs.Formulas.{binary_formula}
use Rattle.spectra_cases.specs.Choices.{choices, form_choices, built, form_built}
use Rattle.spectra_cases.specs.Wholes.{front_choices, form_of}
use Rattle.spectra_cases.proofs.Rows.{are_row, chained_more, built_joined, joined_long}
use Rattle.spectra_cases.proofs.Measured.{row_at}

-- ---- lists

pub dropped_twice : {X : Type 0} (xs : List X) (n m : ℕ) → drop (n + m) xs ≡ drop m (drop n xs)
dropped_twice xs zero m = let same : 0 + m ≡ m = omega arith in ap (λ j. drop j xs) same
dropped_twice [] (suc n) zero = let same : suc n + 0 ≡ suc n = omega arith in ap (λ j. drop j []) same
dropped_twice [] (suc n) (suc m) = let same : suc n + suc m ≡ suc (n + suc m) = omega arith in ap (λ j. drop j []) same
dropped_twice (x ∷ xs) (suc n) m = let same : suc n + m ≡ suc (n + m) = omega arith in ap (λ j. drop j (x ∷ xs)) same ∙ dropped_twice xs n m

pub read_dropped : {X : Type 0} (xs : List X) (n i : ℕ) (x : X) → get_or (drop n xs) i x ≡ get_or xs (n + i) x
read_dropped xs zero i x = let same : i ≡ 0 + i = omega arith in ap (λ j. get_or xs j x) same
read_dropped [] (suc n) i x = refl
read_dropped (y ∷ xs) (suc n) i x = let same : suc (n + i) ≡ suc n + i = omega arith in read_dropped xs n i x ∙ ap (λ j. get_or (y ∷ xs) j x) same

pub dropped_long : {X : Type 0} (xs : List X) (n : ℕ) → n ≤ length xs → length (drop n xs) + n ≡ length xs
dropped_long xs zero few = omega arith
dropped_long [] (suc n) few = absurd (omega arith)
dropped_long (x ∷ xs) (suc n) few = let less = dropped_long xs n (omega arith) in omega arith

taken_whole : {X : Type 0} (xs : List X) (n : ℕ) → length xs ≤ n → take n xs ≡ xs
taken_whole [] zero end = refl
taken_whole [] (suc n) end = refl
taken_whole (x ∷ xs) zero end = absurd (omega arith)
taken_whole (x ∷ xs) (suc n) end = ap (λ ys. x ∷ ys) (taken_whole xs n (omega arith))

-- what stands from a place on
pub suffix : {X : Type 0} (xs : List X) (n : ℕ) → n ≤ length xs → take (length xs - n) (drop n xs) ≡ drop n xs
suffix xs n few = let long = dropped_long xs n few in taken_whole (drop n xs) (length xs - n) (omega (arith, long))

pub formulas-listed : (fs : Formulas) → formulas (listed fs) ≡ fs
formulas-listed Formulas.none = refl
formulas-listed (Formulas.one_more f fs) = ap (Formulas.one_more f) (formulas-listed fs)

-- ---- what stands at a place

pub choices_form : (k : Known) (t : ResolvedTree) (under : _) → choices k t under ≡ form_choices k (form_of t) under
choices_form k (tree first at form) under = refl

pub built_form : (k : Known) (p : ℕ) (t : ResolvedTree) (picks : List ℕ) → built k p t picks ≡ form_built k p (form_of t) picks
built_form k p (tree first at form) picks = refl

-- ---- before a row stands an operator, or nothing

pub front_none : (k : Known) (n : ℕ) (t : ResolvedTree) (under : _) → 0 < n → front_choices k n t under ≡ []
front_none k zero t under some = absurd (omega arith)
front_none k (suc n) t under some = refl

-- ---- one operator more

module _ (k : Known) (p : ℕ) (t : ResolvedTree) (ls : List Link) (before n : ℕ) (l : Link) (row : are_row (map link_data (drop before ls)) ≡ true) (behind : before ≤ n) (below : n < length ls) (is : l ≡ get_or ls n l) where
  abbrev so_far : ResolvedTree
  so_far = chained t (map link_data (take n ls))

  here : is_row_word l.word ≡ true
  here = row_at ls before n l row behind below is

  pub built_more : (picks : List ℕ) (from : ℕ) → built k p (chained t (map link_data (take (n + 1) ls))) (drop from picks)
      ≡ binary_formula l.word (built k p so_far (drop from picks)) (built k p (resolved_data l.second) (drop (from + length (choices k so_far false)) picks))
  built_more picks from =
      ap (λ x. built k p x (drop from picks)) (chained_more t ls n l below is)
      ∙ built_joined k p so_far (link_data l) (drop from picks) here
      ∙ ap (λ ps. binary_formula l.word (built k p so_far (drop from picks)) (built k p (resolved_data l.second) ps)) (sym (dropped_twice picks from (length (choices k so_far false))))

  pub long_more : length (choices k (chained t (map link_data (take (n + 1) ls))) false) ≡ length (choices k so_far false) + length (choices k (resolved_data l.second) false)
  long_more = ap (λ x. length (choices k x false)) (chained_more t ls n l below is) ∙ joined_long k so_far (link_data l) here
