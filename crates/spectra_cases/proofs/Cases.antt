-- What is made where elements are picked for some indexes: each case of the next one.
use Rattle.std.proofs.Common.{◌≡◌, ℕ, zero, suc, ◌+◌, ◌<◌, false, List, [], ◌∷◌, ◌++◌, length, map, drop, get_or, refl, sym, ap, ◌∙◌, arith, length-append, append_assoc, append-nil}
use Rattle.spec_model.specs.Syntax.{Formula, Conjunction, Disjunction, formulas}
use Rattle.spec_model.specs.declared.expr.Expr.{Expr}
use Rattle.spec_model.specs.Views.{formula as formula_data}
use Rattle.spectra_judge.specs.Known.{Known}
use Rattle.spectra_resolved.specs.Chained.{chained}
use Rattle.spectra_resolved.specs.Views.{resolved_data, link_data}
use Rattle.spectra_cases.specs.declared.choosing.Whole.{Whole}
use Rattle.spectra_cases.specs.declared.choosing.Whole.TheVariants as wholes
use Rattle.spectra_cases.specs.Formulas.{binary_formula, cases_of, numbers_below, chosen, equals}
use Rattle.spectra_cases.specs.Choices.{ChoiceOf, equation_of, spread}
use Rattle.spectra_cases.specs.Wholes.{whole_formula, whole_choices, whole_built, whole_cases, case_with, whole_case}
use Rattle.spectra_cases.proofs.Spread.{side_spread, pair_spread}

-- ---- lists

pub dropped_more : {X : Type 0} (xs : List X) (n : ℕ) (x : X) (rest : List X) → drop n xs ≡ x ∷ rest → drop (n + 1) xs ≡ rest
dropped_more [] zero x rest is = absurd (empty x rest is)
  where
    empty : {X : Type 0} (x : X) (rest : List X) → [] ≡ x ∷ rest → ⊥
    empty x rest e = cc
dropped_more [] (suc n) x rest is = absurd (empty x rest is)
  where
    empty : {X : Type 0} (x : X) (rest : List X) → [] ≡ x ∷ rest → ⊥
    empty x rest e = cc
dropped_more (y ∷ xs) zero x rest is = tail y xs x rest is
  where
    tail : {X : Type 0} (y : X) (ys : List X) (x : X) (xs : List X) → y ∷ ys ≡ x ∷ xs → ys ≡ xs
    tail y ys x xs e = cc
dropped_more (y ∷ xs) (suc n) x rest is = let more : suc n + 1 ≡ suc (n + 1) = omega arith in ap (λ j. drop j (y ∷ xs)) more ∙ dropped_more xs n x rest is

-- an element behind so many
pub dropped_at : {X Y : Type 0} (f : X → Y) (xs : List X) (n : ℕ) (x : X) → n < length xs → x ≡ get_or xs n x → drop n (map f xs) ≡ f x ∷ drop (n + 1) (map f xs)
dropped_at f [] n x below is = absurd (omega arith)
dropped_at f (y ∷ xs) zero x below is = λ i. f (sym is i) ∷ map f xs
dropped_at f (y ∷ xs) (suc n) x below is =
    let more : suc (n + 1) ≡ suc n + 1 = omega arith in dropped_at f xs n x (omega arith) is ∙ ap (λ j. f x ∷ drop j (map f (y ∷ xs))) more

pub mapped_long : {X Y : Type 0} (f : X → Y) (xs : List X) → length (map f xs) ≡ length xs
mapped_long f [] = refl
mapped_long f (x ∷ xs) = ap suc (mapped_long f xs)

pub dropped_end : {X : Type 0} (xs : List X) (n : ℕ) → n ≡ length xs → drop n xs ≡ []
dropped_end [] zero is = refl
dropped_end [] (suc n) is = refl
dropped_end (x ∷ xs) zero is = absurd (omega arith)
dropped_end (x ∷ xs) (suc n) is = dropped_end xs n (omega arith)

-- one formula more
pub pushed_data : (es : List Expr) (e : Expr) → map formula_data (es ++ e ∷ []) ≡ map formula_data es ++ formula_data e ∷ []
pushed_data [] e = refl
pushed_data (x ∷ es) e = ap (λ fs. formula_data x ∷ fs) (pushed_data es e)

-- ---- numbers from 0 on

numbers_push : (from n : ℕ) → numbers_below from (n + 1) ≡ numbers_below from n ++ (from + n) ∷ []
numbers_push from zero = let same : from ≡ from + 0 = omega arith in ap (λ m. m ∷ []) same
numbers_push from (suc n) =
    let more : suc n + 1 ≡ suc (n + 1) = omega arith in
    let same : suc from + n ≡ from + suc n = omega arith in
    ap (numbers_below from) more ∙ ap (λ ms. from ∷ ms) (numbers_push (suc from) n ∙ ap (λ m. numbers_below (suc from) n ++ m ∷ []) same)

mapped_push : {X : Type 0} (f : ℕ → X) (ms : List ℕ) (m : ℕ) → map f (ms ++ m ∷ []) ≡ map f ms ++ f m ∷ []
mapped_push f [] m = refl
mapped_push f (x ∷ ms) m = ap (λ xs. f x ∷ xs) (mapped_push f ms m)

pub numbered_push : {X : Type 0} (f : ℕ → X) (n : ℕ) → map f (numbers_below 0 (n + 1)) ≡ map f (numbers_below 0 n) ++ f n ∷ []
numbered_push f n = let same : 0 + n ≡ n = omega arith in ap (map f) (numbers_push 0 n) ∙ mapped_push f (numbers_below 0 n) (0 + n) ∙ ap (λ m. map f (numbers_below 0 n) ++ f m ∷ []) same

-- the case of a number
abbrev pub case_of : (is_number : ℕ → Formula) → (with_element : ℕ → Formula) → (first : ℕ) → ℕ → Formula
case_of is_number with_element first i = Conjunction (formulas (is_number i ∷ with_element (first + i) ∷ []))

pub cases_mapped : (is_number with_element : ℕ → Formula) (first : ℕ) (is : List ℕ) → map (case_of is_number with_element first) is ≡ cases_of is_number with_element first is
cases_mapped is_number with_element first [] = refl
cases_mapped is_number with_element first (i ∷ is) = ap (λ fs. case_of is_number with_element first i ∷ fs) (cases_mapped is_number with_element first is)

pub chosen_mapped : (is_number with_element : ℕ → Formula) (first n : ℕ) → Disjunction (formulas (map (case_of is_number with_element first) (numbers_below 0 n))) ≡ chosen is_number with_element first n
chosen_mapped is_number with_element first n = ap (λ fs. Disjunction (formulas fs)) (cases_mapped is_number with_element first (numbers_below 0 n))

-- ---- what is made

module _ (k : Known) (p : ℕ) (w : Whole) where
  -- an index is next
  module _ (picks : List ℕ) (c : ChoiceOf) (cs : List ChoiceOf) (is : drop (length picks) (whole_choices k w) ≡ c ∷ cs) where
    next_cases : (v : ℕ) → whole_cases k p w (picks ++ v ∷ []) ≡ spread k p cs (λ vs. whole_built k p w (picks ++ v ∷ vs))
    next_cases v =
        let long : length (picks ++ v ∷ []) ≡ length picks + 1 = length-append picks (v ∷ []) in
        let left : drop (length (picks ++ v ∷ [])) (whole_choices k w) ≡ cs = ap (λ n. drop n (whole_choices k w)) long ∙ dropped_more (whole_choices k w) (length picks) c cs is in
        λ i. spread k p (left i) (λ vs. whole_built k p w (append_assoc picks (v ∷ []) vs i))

    pub cases_are : whole_cases k p w picks ≡ chosen (equation_of k p c.under c.index) (λ v. whole_cases k p w (picks ++ v ∷ [])) c.first c.count
    cases_are =
        ap (λ ds. spread k p ds (λ vs. whole_built k p w (picks ++ vs))) is
        ∙ (λ i. chosen (equation_of k p c.under c.index) (λ v. sym (next_cases v) i) c.first c.count)

    pub case_is : (i : ℕ) → whole_case k p w picks i ≡ case_of (equation_of k p c.under c.index) (λ v. whole_cases k p w (picks ++ v ∷ [])) c.first i
    case_is i = ap (case_with k p w picks i) is

    each_case : (is : List ℕ) → map (whole_case k p w picks) is ≡ map (case_of (equation_of k p c.under c.index) (λ v. whole_cases k p w (picks ++ v ∷ [])) c.first) is
    each_case [] = refl
    each_case (i ∷ is) = λ j. case_is i j ∷ each_case is j

    pub all_cases : Disjunction (formulas (map (whole_case k p w picks) (numbers_below 0 c.count))) ≡ whole_cases k p w picks
    all_cases =
        ap (λ fs. Disjunction (formulas fs)) (each_case (numbers_below 0 c.count))
        ∙ chosen_mapped (equation_of k p c.under c.index) (λ v. whole_cases k p w (picks ++ v ∷ [])) c.first c.count
        ∙ sym cases_are

  -- none is
  pub last_case : (picks : List ℕ) → length picks ≡ length (whole_choices k w) → whole_cases k p w picks ≡ whole_built k p w picks
  last_case picks long =
      ap (λ ds. spread k p ds (λ vs. whole_built k p w (picks ++ vs))) (dropped_end (whole_choices k w) (length picks) long) ∙ ap (whole_built k p w) (append-nil picks)

-- nothing is picked at first
pub first_case : (k : Known) (p : ℕ) (w : Whole) → whole_cases k p w [] ≡ whole_formula k p w
first_case k p (wholes.Row head links) = sym (side_spread k p (chained (resolved_data head.now) (map link_data links.now)) false (λ f. f))
first_case k p (wholes.Comparison word head links second) =
    let t = chained (resolved_data head.now) (map link_data links.now) in
    let u = resolved_data second.now in
    sym (pair_spread k p t u false (binary_formula word) (side_spread k p t false) (side_spread k p u false))
first_case k p (wholes.Equation under t i) = sym (side_spread k p (resolved_data t.now) under (λ f. equals under f i))
