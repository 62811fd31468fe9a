-- The value of a whole-number expression without a fault is within its span, where each variable has values of its domain.
use Rattle.std.proofs.Common.{◌≡◌, ℕ, zero, suc, ◌+◌, ◌<◌, ◌≤◌, ℤ, pos, negsuc, ◌≤ℤ◌, ◌+ℤ◌, ◌-ℤ◌, ◌*ℤ◌, Bool, true, false, not, ◌||◌, [], ◌++◌, get_or, refl, sym, ap, subst, ◌∙◌, arith}
use Rattle.std.specs.Prelude.{int_le, int_lt, nat_abs}
use Rattle.std.specs.Int.{int_rem_euclid}
use Rattle.std.proofs.lemmas.Int.{ints}
use Rattle.std.proofs.lemmas.Bool.{false≢true, and_parts, or_parts}
use Rattle.spec_model.specs.declared.value.Value.{Value}
use Rattle.spec_model.specs.declared.value.Value.TheVariants as value
use Rattle.spec_model.specs.Values.{truth_of, number_of}
use Rattle.spectra_trees.specs.declared.tree.BinaryWord.{BinaryWord}
use Rattle.spectra_trees.specs.declared.tree.BinaryWord.TheVariants as binary
use Rattle.spectra_resolved.specs.declared.spot.Mark.{Mark}
use Rattle.spectra_resolved.specs.declared.tree.Leaf.{Leaf}
use Rattle.spectra_resolved.specs.Resolved.{ResolvedTree, tree, Form}
use Rattle.spectra_judge.specs.Findings.{fault_if}
use Rattle.spectra_judge.specs.Kinds.{Kind, Truth, Whole, SomeWhole, NameOf, OneName, Anything, is_whole, is_wide, is_outside, added, subtracted, multiplied, reduced}
use Rattle.spectra_judge.specs.Operators.{is_past, takes, gives}
use Rattle.spectra_judge.specs.declared.around.Around.{Around}
use Rattle.spectra_judge.specs.Around.{under_next, within, next_faults, variable_faults}
use Rattle.spectra_judge.specs.Known.{Known, Setting, is_system}
use Rattle.spectra_judge.specs.Judged.{leaf_kind, kind_of, form_kind, wrong, binary_faults, operator_faults, first_of, faults, form_faults}
use Rattle.spectra_judge.specs.PutIn.{Parts, is_put_in, form_put_in}
use Rattle.spectra_judge.proofs.Empty.{empty_parts, no_fault, right}
use Rattle.spectra_meant.proofs.Within.{IsWithin, sum_within, difference_within, product_within, remainder_within}
use Rattle.spectra_types.specs.Senses.{Sense, Senses, leaf_sense, binary_sense, sense, form_sense}

-- a number of a span
pub record IsNumberOf (k : Kind) (v : Value) : Type 0 where
  pub number : ℤ
  pub is : v ≡ value.Int number
  pub within : IsWithin number k

-- a value of a variable's kind, where it is a truth value or a whole number
abbrev pub IsOfKind : Kind → Value → Type 0
IsOfKind Truth v = v ≡ value.Bool (truth_of v)
IsOfKind (Whole low high) v = IsNumberOf (Whole low high) v
IsOfKind SomeWhole v = ⊥
IsOfKind (NameOf names) v = Unit {0}
IsOfKind (OneName name) v = Unit {0}
IsOfKind Anything v = ⊥

pub whole_number : (k : Kind) (v : Value) → is_whole k ≡ true → IsOfKind k v → IsNumberOf k v
whole_number (Whole low high) v whole is = is
whole_number SomeWhole v whole is = absurd is
whole_number Anything v whole is = absurd is
whole_number Truth v whole is = absurd (false≢true whole)
whole_number (NameOf names) v whole is = absurd (false≢true whole)
whole_number (OneName name) v whole is = absurd (false≢true whole)

-- ---- elements

-- the number of an element
pub record IsIndex (count : ℕ) (v : Value) : Type 0 where
  pub index : ℕ
  pub below : index < count
  pub is : v ≡ value.Int (pos index)

span_inside : (count : ℕ) (low high z : ℤ) → 0 < count → is_outside count (Whole low high) ≡ false → low ≤ℤ z → z ≤ℤ high → (i : ℕ) × ((i < count) × (z ≡ pos i))
span_inside zero low high z some inside from to = absurd (omega (arith, some))
span_inside (suc m) low high z some inside from to =
    let parts = or_parts (int_lt low (pos 0)) (not (int_le high (pos m))) inside in by z (last (int_le high (pos m)) refl parts.1) parts.0 from to
  where
    last : (b : Bool) → int_le high (pos m) ≡ b → not b ≡ false → int_le high (pos m) ≡ true
    last true e is = e
    last false e is = absurd (false≢true (sym is))

    by : (z : ℤ) → int_le high (pos m) ≡ true → int_lt low (pos 0) ≡ false → low ≤ℤ z → z ≤ℤ high → (i : ℕ) × ((i < suc m) × (z ≡ pos i))
    by (pos i) top bottom from to = (i, (omega (arith, ints), refl))
    by (negsuc i) top bottom from to = absurd (omega (arith, ints))

pub index_of : (count : ℕ) (k : Kind) (v : Value) → 0 < count → is_outside count k ≡ false → IsNumberOf k v → IsIndex count v
index_of count k v some inside number =
    let w = number.within in
    let found = span_inside count w.low w.high number.number some (ap (is_outside count) (sym w.is) ∙ inside) w.from_low w.to_high in
    record { index = found.0; below = found.1.0; is = number.is ∙ ap (λ z. value.Int z) found.1.1 }

-- An array's elements, where each has values of its kind, which is that of the first one.
pub record AreElements (known : Known) (s : Senses) (first count : ℕ) : Type 0 where
  pub some : 0 < count
  pub few : count ≤ 256
  pub values : (i : ℕ) → i < count → (p : ℕ) → IsOfKind (get_or known.variables first Anything) (s.variable (first + i) p)

-- ---- expressions

module _ (good : Parts) (set : Setting) (s : Senses) where
  -- where parts without parts have numbers of their spans, and arrays have elements
  pub record HaveValues : Type 0 where
    pub leaves : (l : Leaf) → good.leaf l ≡ true → is_whole (leaf_kind set.known l) ≡ true → (p : ℕ) → IsNumberOf (leaf_kind set.known l) (leaf_sense s l p)
    pub arrays : (first count : ℕ) → good.array first count ≡ true → AreElements set.known s first count

  operation_within : (word : BinaryWord) (j k : Kind) (u v : Sense) (p : ℕ) → takes word j k ≡ true → is_wide (gives word j k) ≡ false → is_whole (gives word j k) ≡ true →
      (is_whole j ≡ true → IsNumberOf j (u p)) → (is_whole k ≡ true → IsNumberOf k (v p)) → IsNumberOf (gives word j k) (binary_sense word u v p)
  operation_within binary.Add j k u v p taken narrow whole first second =
      let parts = and_parts (is_whole j) (is_whole k) taken in
      let a = first parts.0 in
      let b = second parts.1 in
      record { number = a.number +ℤ b.number; is = λ i. value.Int (number_of (a.is i) +ℤ number_of (b.is i)); within = sum_within a.number b.number j k a.within b.within narrow }
  operation_within binary.Sub j k u v p taken narrow whole first second =
      let parts = and_parts (is_whole j) (is_whole k) taken in
      let a = first parts.0 in
      let b = second parts.1 in
      record { number = a.number -ℤ b.number; is = λ i. value.Int (number_of (a.is i) -ℤ number_of (b.is i)); within = difference_within a.number b.number j k a.within b.within narrow }
  operation_within binary.Mul j k u v p taken narrow whole first second =
      let parts = and_parts (is_whole j) (is_whole k) taken in
      let a = first parts.0 in
      let b = second parts.1 in
      record { number = a.number *ℤ b.number; is = λ i. value.Int (number_of (a.is i) *ℤ number_of (b.is i)); within = product_within a.number b.number j k a.within b.within narrow }
  operation_within binary.Implies j k u v p taken narrow whole first second = absurd (false≢true whole)
  operation_within binary.Iff j k u v p taken narrow whole first second = absurd (false≢true whole)
  operation_within binary.Since j k u v p taken narrow whole first second = absurd (false≢true whole)
  operation_within binary.Triggered j k u v p taken narrow whole first second = absurd (false≢true whole)
  operation_within binary.Eq j k u v p taken narrow whole first second = absurd (false≢true whole)
  operation_within binary.Ne j k u v p taken narrow whole first second = absurd (false≢true whole)
  operation_within binary.Lt j k u v p taken narrow whole first second = absurd (false≢true whole)
  operation_within binary.Le j k u v p taken narrow whole first second = absurd (false≢true whole)
  operation_within binary.Gt j k u v p taken narrow whole first second = absurd (false≢true whole)
  operation_within binary.Ge j k u v p taken narrow whole first second = absurd (false≢true whole)

  module _ (have : HaveValues) where
    mutual
      pub number_within : (o : Around) (t : ResolvedTree) → is_put_in good t ≡ true → faults set o t ≡ [] → is_whole (kind_of set.known t) ≡ true → (p : ℕ) → IsNumberOf (kind_of set.known t) (sense s t p)
      number_within o (tree first at form) put none whole p = let one = form_within o at form put none whole p in record { number = one.number; is = one.is; within = one.within }

      form_within : (o : Around) (at : Mark) (form : Form) → form_put_in good form ≡ true → form_faults set o at form ≡ [] → is_whole (form_kind set.known form) ≡ true → (p : ℕ) → IsNumberOf (form_kind set.known form) (form_sense s form p)
      form_within o at (Form.LeafOf l) put none whole p = let one = have.leaves l put whole p in record { number = one.number; is = one.is; within = one.within }
      form_within o at (Form.PredicateOf k ts) put none whole p = absurd (false≢true put)
      form_within o at (Form.MisuseOf m ts) put none whole p = absurd (false≢true put)
      form_within o at (Form.Next t) put none whole p =
          let one = number_within (under_next at o) t put (empty_parts (next_faults set.bans o at) _ none).1 whole (suc p) in record { number = one.number; is = one.is; within = one.within }
      form_within o at (Form.Prefix word t) put none whole p = absurd (false≢true whole)
      form_within o at (Form.Binary word a b) put none whole p =
          let inner = within (is_past word) at o in
          let tests = and_parts (is_put_in good a) (is_put_in good b) put in
          let left = empty_parts (faults set inner a) _ none in
          let behind = empty_parts (operator_faults set (is_past word) o.next at) _ left.1 in
          let other = empty_parts (faults set inner b) (binary_faults word (kind_of set.known a) (kind_of set.known b) at.spot) behind.1 in
          let last = empty_parts (wrong (takes word (kind_of set.known a) (kind_of set.known b)) at.spot) _ other.1 in
          let one =
          operation_within word (kind_of set.known a) (kind_of set.known b) (λ q. sense s a q) (λ q. sense s b q) p (right _ at.spot last.0) (no_fault (is_wide (gives word (kind_of set.known a) (kind_of set.known b))) 14 at.spot last.1) whole
          (λ whole. number_within inner a tests.0 left.0 whole p) (λ whole. number_within inner b tests.1 other.0 whole p) in
          record { number = one.number; is = one.is; within = one.within }
      form_within o at (Form.Mod t number_at n) put none whole p =
          let left = empty_parts (faults set o t) _ none in
          let more = empty_parts (wrong (is_whole (kind_of set.known t)) at.spot) _ left.1 in
          let last = empty_parts (fault_if (int_le n (pos 0)) 14 number_at) _ more.1 in
          let positive = no_fault (int_le n (pos 0)) 14 number_at last.0 in
          let one = number_within o t put left.0 (right _ at.spot more.0) p in
          record {
            number = int_rem_euclid one.number n;
            is = λ i. value.Int (int_rem_euclid (number_of (one.is i)) n);
            within = remainder_within n one.number (above (int_lt (pos 0) n) refl positive);
          }
        where
          above : (b : Bool) → int_lt (pos 0) n ≡ b → int_le n (pos 0) ≡ false → int_lt (pos 0) n ≡ true
          above true e positive = e
          above false e positive = absurd (omega (arith, ints))
      form_within o at (Form.And ts operators) put none whole p = absurd (false≢true whole)
      form_within o at (Form.Or ts operators) put none whole p = absurd (false≢true whole)
      form_within o at (Form.Index array count t) put none whole p =
          let tests = and_parts (good.array array count) (is_put_in good t) put in
          let left = empty_parts (faults set o t) _ none in
          let read = empty_parts (variable_faults set.bans o at (is_system set.known array)) _ left.1 in
          let last = empty_parts (wrong (is_whole (kind_of set.known t)) (first_of t)) _ read.1 in
          let elements = have.arrays array count tests.0 in
          let found = index_of count (kind_of set.known t) (sense s t p) elements.some (no_fault (is_outside count (kind_of set.known t)) 25 at.spot last.1) (number_within o t tests.1 left.0 (right _ (first_of t) last.0) p) in
          let one = whole_number (get_or set.known.variables array Anything) _ whole (elements.values found.index found.below p) in
          record { number = one.number; is = (λ i. s.variable (array + nat_abs (number_of (found.is i))) p) ∙ one.is; within = one.within }
      form_within o at (Form.Quantified word variable extent low high ts) put none whole p = absurd (false≢true whole)

    -- an index is the number of an element
    pub index_is : (o : Around) (at : Mark) (array count : ℕ) (t : ResolvedTree) → good.array array count ≡ true → is_put_in good t ≡ true → form_faults set o at (Form.Index array count t) ≡ [] → (p : ℕ) → IsIndex count (sense s t p)
    index_is o at array count t there put none p =
        let left = empty_parts (faults set o t) _ none in
        let read = empty_parts (variable_faults set.bans o at (is_system set.known array)) _ left.1 in
        let last = empty_parts (wrong (is_whole (kind_of set.known t)) (first_of t)) _ read.1 in
        index_of count (kind_of set.known t) (sense s t p) (have.arrays array count there).some (no_fault (is_outside count (kind_of set.known t)) 25 at.spot last.1)
        (number_within o t put left.0 (right _ (first_of t) last.0) p)
