-- What is made of the elements of an array, by the cases of its index.
use Rattle.std.proofs.Common.{◌≡◌, ℕ, zero, suc, ◌+◌, ◌<◌, ◌≤◌, min, nat_lt, ◌==◌, ℤ, pos, ◌-ℤ◌, ◌≤ℤ◌, Bool, true, false, ◌&&◌, ◌||◌, if◌then◌else◌, ◌⊎◌, inl, inr, refl, sym, ap, subst, ◌∙◌, arith}
use Rattle.std.specs.Prelude.{int_lt, int_le, nat_abs}
use Rattle.std.specs.List.{list_any}
use Rattle.std.proofs.lemmas.Int.{ints}
use Rattle.std.proofs.lemmas.Bool.{false≢true, and_parts, or_from, eqb-true, ltb-true, ltb-false}
use Rattle.std.proofs.lemmas.Bool.Decides.{Decides-eqb}
use Rattle.std.proofs.Math.Nat.{min-eq_left}
use Rattle.spec_model.specs.declared.value.Value.{Value}
use Rattle.spec_model.specs.declared.value.Value.TheVariants as value
use Rattle.spec_model.specs.Values.{same_value, truth_of, number_of}
use Rattle.spec_model.specs.Syntax.{Formula, formulas, Variable}
use Rattle.spec_model.specs.Meaning.{Reading, value_at, truths_at}
use Rattle.spec_model.proofs.AllStates.{same_value-true}
use Rattle.spec_model.proofs.Listed.{same_value-refl}
use Rattle.spectra_judge.specs.Kinds.{Kind, Truth, Whole, SomeWhole, NameOf, OneName, Anything, is_truth, added, subtracted, multiplied, reduced}
use Rattle.spectra_cases.specs.Formulas as cases
use Rattle.spectra_cases.specs.Formulas.{element, by_array, by_index, reading_of, cases_of, numbers_below, chosen, index_side}
use Rattle.spectra_types.proofs.Within.{IsNumberOf, IsOfKind}

-- a value at one position
abbrev pub HasAt : Reading → Formula → Value → ℕ → Type 0
HasAt r e v p = value_at r e p ≡ v

-- ---- cases

module _ (r : Reading) (is_number with_element : ℕ → Formula) (first index : ℕ) (x : ℕ) (each : (i : ℕ) → HasAt r (is_number i) (value.Bool (same_value (value.Int (pos index)) (value.Int (pos i)))) x) where
  abbrev some_case : (from count : ℕ) → Bool
  some_case from count = list_any (λ a. a x) (truths_at r (formulas (cases_of is_number with_element first (numbers_below from count))))

  -- whether the index is a number, and so is the element
  abbrev one_case : ℕ → Bool
  one_case i = truth_of (value_at r (is_number i) x) && (truth_of (value_at r (with_element (first + i)) x) && true)

  other_number : (i : ℕ) → (index ≡ i → ⊥) → truth_of (value_at r (is_number i) x) ≡ false
  other_number i other = ap truth_of (each i) ∙ by (same_value (value.Int (pos index)) (value.Int (pos i))) refl
    where
      by : (b : Bool) → same_value (value.Int (pos index)) (value.Int (pos i)) ≡ b → b ≡ false
      by false e = refl
      by true e = absurd (other (ap (λ v. nat_abs (number_of v)) (same_value-true (value.Int (pos index)) (value.Int (pos i)) e)))

  never_case : (from count : ℕ) → index < from → some_case from count ≡ false
  never_case from zero past = refl
  never_case from (suc n) past =
      or_from (one_case from) (some_case (suc from) n) (ap (λ b. b && (truth_of (value_at r (with_element (first + from)) x) && true)) (other_number from (λ same. absurd (omega (arith, same, past))))) (never_case (suc from) n (omega (arith, past)))

  and_true : (b : Bool) → (b && true) ≡ b
  and_true true = refl
  and_true false = refl

  or_false : (b : Bool) → (b || false) ≡ b
  or_false true = refl
  or_false false = refl

  here_case : (from n : ℕ) → from ≡ index → some_case from (suc n) ≡ truth_of (value_at r (with_element (first + index)) x)
  here_case from n same =
      let here : truth_of (value_at r (is_number index) x) ≡ true = ap truth_of (each index) ∙ same_value-refl (value.Int (pos index)) in
      let rest : some_case (suc from) n ≡ false = never_case (suc from) n (omega (arith, same)) in
      (λ i. one_case (same i) || rest i) ∙ (or_false (one_case index) ∙ ((λ i. here i && (truth_of (value_at r (with_element (first + index)) x) && true)) ∙ and_true _))

  later_case : (from n : ℕ) → (index ≡ from → ⊥) → some_case (suc from) n ≡ truth_of (value_at r (with_element (first + index)) x) → some_case from (suc n) ≡ truth_of (value_at r (with_element (first + index)) x)
  later_case from n different rest = (λ i. (other_number from different i && (truth_of (value_at r (with_element (first + from)) x) && true)) || some_case (suc from) n) ∙ rest

  further : (from : ℕ) (b : Bool) → from ≤ index → nat_lt from index ≡ b → (index ≡ from → ⊥) → suc from ≤ index
  further from true low e different = let less = ltb-true from index e in omega (arith, less)
  further from false low e different = absurd (different (let more = ltb-false from index e in omega (arith, low, more)))

  that_case : (from count : ℕ) → from ≤ index → index < from + count → some_case from count ≡ truth_of (value_at r (with_element (first + index)) x)
  that_case from zero low high = absurd (omega (arith, low, high))
  that_case from (suc n) low high = decided (from == index) refl (λ different. that_case (suc from) n (further from (nat_lt from index) low refl different) (omega (arith, high)))
    where
      decided : (b : Bool) → (from == index) ≡ b → ((index ≡ from → ⊥) → some_case (suc from) n ≡ truth_of (value_at r (with_element (first + index)) x)) → some_case from (suc n) ≡ truth_of (value_at r (with_element (first + index)) x)
      decided true e rest = here_case from n (eqb-true from index e)
      decided false e rest =
          let different : index ≡ from → ⊥ = λ same. false≢true (sym e ∙ (Decides-eqb from index).1 (sym same)) in later_case from n different (rest different)

  -- exactly the case of the index holds
  pub chosen_has : (count : ℕ) → index < count → value_at r (chosen is_number with_element first count) x ≡ value.Bool (truth_of (value_at r (with_element (first + index)) x))
  chosen_has count below = ap (λ b. value.Bool b) (that_case 0 count (omega arith) (omega (arith, below)))

-- ---- kinds

pub added_whole : (j k : Kind) → is_truth (added j k) ≡ false
added_whole (Whole a b) (Whole c d) = refl
added_whole _ _ = refl

pub subtracted_whole : (j k : Kind) → is_truth (subtracted j k) ≡ false
subtracted_whole (Whole a b) (Whole c d) = refl
subtracted_whole _ _ = refl

pub multiplied_whole : (j k : Kind) → is_truth (multiplied j k) ≡ false
multiplied_whole (Whole a b) (Whole c d) = refl
multiplied_whole _ _ = refl

pub reduced_whole : (n : ℤ) → is_truth (reduced n) ≡ false
reduced_whole n = by (int_lt (pos 0) n)
  where
    by : (b : Bool) → is_truth (if b then Whole (pos 0) (n -ℤ pos 1) else SomeWhole) ≡ false
    by true = refl
    by false = refl

-- what is made of an expression of a kind: a truth value, where the kind isn't
abbrev pub IsMadeOf : Kind → Value → Type 0
IsMadeOf k v = (is_truth k ≡ true) ⊎ (v ≡ value.Bool (truth_of v))

pub never_truth : (k : Kind) (v : Value) → is_truth k ≡ false → IsMadeOf k v → v ≡ value.Bool (truth_of v)
never_truth k v whole (inl is) = absurd (false≢true (sym whole ∙ is))
never_truth k v whole (inr is) = is

-- ---- an element

-- what is made of an element, by how its array is read
module _ (r : Reading) (k : Kind) (first count index : ℕ) (element_value : Value) (y x : ℕ) (here outside : ℕ → Formula) (below : index < count) (few : count ≤ 256)
    (here_is : (i : ℕ) → HasAt r (here i) (value.Bool (same_value (value.Int (pos index)) (value.Int (pos i)))) y)
    (outside_is : (i : ℕ) → HasAt r (outside i) (value.Bool (same_value (value.Int (pos index)) (value.Int (pos i)))) x)
    (reads : r.variable (first + index) y ≡ element_value) (of_kind : IsOfKind k element_value)
    (make : Formula → Formula) (b : Value) (made : IsMadeOf k b) (makes : (f : Formula) → HasAt r f element_value y → HasAt r (make f) b x) where
  outside_has : is_truth k ≡ false → HasAt r (chosen outside (λ v. make (Variable v)) first count) b x
  outside_has whole =
      chosen_has r outside (λ v. make (Variable v)) first index x outside_is count below
      ∙ ((λ i. value.Bool (truth_of (makes (Variable (first + index)) reads i))) ∙ sym (never_truth k b whole made))

  array_has : (j : Kind) → k ≡ j → HasAt r (index_side (by_array j) first count here outside make) b x
  array_has Truth is =
      let truth : element_value ≡ value.Bool (truth_of element_value) = subst (λ k. IsOfKind k element_value) is of_kind in
      makes (chosen here Variable first count) (chosen_has r here Variable first index y here_is count below ∙ ((λ i. value.Bool (truth_of (reads i))) ∙ sym truth))
  array_has (Whole low high) is = outside_has (ap is_truth is)
  array_has (NameOf names) is = outside_has (ap is_truth is)
  array_has (OneName name) is = outside_has (ap is_truth is)
  array_has SomeWhole is = absurd (subst (λ k. IsOfKind k element_value) is of_kind)
  array_has Anything is = absurd (subst (λ k. IsOfKind k element_value) is of_kind)

  element_is : (low : ℤ) → low ≡ pos index → element first low ≡ first + index
  element_is low is = ap (element first) is ∙ ((λ i. if never_below i then first else first + min index 255) ∙ ap (λ m. first + m) (min-eq_left (omega (arith, below, few))))
    where
      never_below : int_lt (pos index) (pos 0) ≡ false
      never_below = by (int_lt (pos index) (pos 0)) refl
        where
          by : (b : Bool) → int_lt (pos index) (pos 0) ≡ b → b ≡ false
          by false e = refl
          by true e = absurd (omega (arith, ints))

  span_has : (low high number : ℤ) → low ≤ℤ number → number ≤ℤ high → number ≡ pos index → (c : Bool) → (int_le low high && int_le high low) ≡ c →
      HasAt r (index_side (if c then cases.One (element first low) else by_array k) first count here outside make) b x
  span_has low high number from to is true e =
      let rises = (and_parts (int_le low high) (int_le high low) e).1 in
      let low_is : low ≡ number = omega (arith, ints, rises) in
      subst (λ v. HasAt r (make (Variable v)) b x) (sym (element_is low (low_is ∙ is))) (makes (Variable (first + index)) reads)
  span_has low high number from to is false e = array_has k refl

  pub element_has : (kind : Kind) (v : Value) → v ≡ value.Int (pos index) → IsNumberOf kind v → (n : ℕ) → n ≡ count → HasAt r (index_side (reading_of k first n kind) first count here outside make) b x
  element_has kind v is number zero same = absurd (omega (arith, same, below))
  element_has kind v is number (suc m) same =
      let w = number.within in
      subst (λ kind. HasAt r (index_side (by_index k first kind) first count here outside make) b x) (sym w.is)
      (span_has w.low w.high number.number w.from_low w.to_high (ap number_of (sym number.is ∙ is)) (int_le w.low w.high && int_le w.high w.low) refl)
