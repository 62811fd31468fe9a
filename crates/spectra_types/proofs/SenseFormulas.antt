-- The formula of an expression in which everything is put in has its value.
use Rattle.std.proofs.Common.{◌≡◌, ℕ, zero, suc, ◌+◌, ◌<◌, ◌≤◌, min, nat_lt, ◌==◌, ℤ, pos, ◌≤ℤ◌, Bool, true, false, not, ◌&&◌, ◌||◌, if◌then◌else◌, ◌⊎◌, inl, inr, is_some, List, [], ◌∷◌, ◌++◌, map, Option, Some, None, drop, get_or, refl, sym, ap, subst, ◌∙◌, arith}
use Rattle.std.specs.Prelude.{◌+ℤ◌, ◌-ℤ◌, ◌*ℤ◌, int_lt, int_le, nat_abs}
use Rattle.std.specs.List.{list_any, list_all}
use Rattle.std.specs.Int.{int_rem_euclid}
use Rattle.std.specs.Bool.{beq}
use Rattle.std.proofs.lemmas.Int.{ints}
use Rattle.std.proofs.lemmas.Bool.{false≢true, and_parts}
use Rattle.std.proofs.lemmas.Bool.Decides.{Decides-eqb}
use Rattle.std.proofs.Math.Nat.{min-eq_left}
use Rattle.spec_model.specs.declared.value.Value.{Value}
use Rattle.spec_model.specs.declared.value.Value.TheVariants as value
use Rattle.spec_model.specs.Values.{same_value, truth_of, number_of}
use Rattle.spec_model.specs.Syntax.{Formula, Formulas, formulas, Variable, NextOf, Conjunction, Disjunction, Remainder}
use Rattle.spec_model.specs.Meaning.{Reading, value_at, truths_at, previously, once, historically, since, triggered}
use Rattle.spec_model.proofs.AllStates.{same_value-true}
use Rattle.spec_model.proofs.Listed.{same_value-refl}
use Rattle.spectra_trees.specs.declared.tree.PrefixWord.{PrefixWord}
use Rattle.spectra_trees.specs.declared.tree.PrefixWord.TheVariants as prefixes
use Rattle.spectra_trees.specs.declared.tree.BinaryWord.{BinaryWord}
use Rattle.spectra_trees.specs.declared.tree.BinaryWord.TheVariants as binary
use Rattle.spectra_resolved.specs.declared.spot.Spot.{Spot}
use Rattle.spectra_resolved.specs.declared.spot.Mark.{Mark}
use Rattle.spectra_resolved.specs.declared.tree.Leaf.{Leaf}
use Rattle.spectra_resolved.specs.declared.tree.QuantifierWord.{QuantifierWord}
use Rattle.spectra_resolved.specs.declared.tree.QuantifierWord.TheVariants as quantifiers
use Rattle.spectra_resolved.specs.declared.tree.Extent.TheVariants as extents
use Rattle.spectra_resolved.specs.Resolved.{ResolvedTree, tree, Form, ResolvedTrees}
use Rattle.spectra_judge.specs.Findings.{fault_if}
use Rattle.spectra_judge.specs.Kinds.{Kind, Truth, Whole, SomeWhole, NameOf, OneName, Anything, is_truth, is_whole, is_outside, added, subtracted, multiplied, reduced}
use Rattle.spectra_judge.specs.Operators.{is_past, is_past_prefix, takes}
use Rattle.spectra_judge.specs.declared.around.Around.{Around}
use Rattle.spectra_judge.specs.Around.{under_next, within, in_next, next_faults, past_faults, variable_faults}
use Rattle.spectra_judge.specs.Known.{Setting, is_system}
use Rattle.spectra_judge.specs.Judged.{kind_of, form_kind, first_of, wrong, binary_faults, operator_faults, remainder_faults, faults, form_faults, operand_faults, copy_faults}
use Rattle.spectra_judge.specs.PutIn.{Parts, is_put_in, form_put_in, each_put_in}
use Rattle.spectra_judge.proofs.Empty.{not_empty, empty_parts, right}
use Rattle.spectra_cases.specs.Formulas as cases
use Rattle.spectra_cases.specs.Formulas.{leaf_formula, prefix_formula, binary_formula, quantified_formula, element, by_array, by_index, reading_of, cases_of, numbers_below, chosen, equals, index_side, side, form_side, each_formula, formula_of}
use Rattle.spectra_types.specs.Senses.{Sense, Senses, leaf_sense, prefix_sense, binary_sense, truths, quantified, sense, form_sense, senses}
use Rattle.spectra_types.proofs.PutOut.{all_right, form_right, each_right}
use Rattle.spectra_types.proofs.Cases.{HasAt, IsMadeOf, added_whole, subtracted_whole, multiplied_whole, reduced_whole, never_truth, element_has}
use Rattle.spectra_types.proofs.Within.{IsNumberOf, IsOfKind, IsIndex, AreElements, HaveValues, number_within, index_is}

-- the formula has these values
abbrev Has : Reading → Formula → Sense → Type 0
Has r e a = (p : ℕ) → value_at r e p ≡ a p

prefix_has : (r : Reading) (word : PrefixWord) (e : Formula) (a : Sense) → Has r e a → Has r (prefix_formula word e) (prefix_sense word a)
prefix_has r prefixes.Not e a is p = λ i. value.Bool (not (truth_of (is p i)))
prefix_has r prefixes.Prev e a is p = λ i. value.Bool (previously (λ q. truth_of (is q i)) p)
prefix_has r prefixes.Once e a is p = λ i. value.Bool (once (λ q. truth_of (is q i)) p)
prefix_has r prefixes.Historically e a is p = λ i. value.Bool (historically (λ q. truth_of (is q i)) p)

binary_has : (r : Reading) (word : BinaryWord) (e f : Formula) (a b : Sense) → Has r e a → Has r f b → Has r (binary_formula word e f) (binary_sense word a b)
binary_has r binary.Implies e f a b is as' p = λ i. value.Bool (not (truth_of (is p i)) || truth_of (as' p i))
binary_has r binary.Iff e f a b is as' p = λ i. value.Bool (beq (truth_of (is p i)) (truth_of (as' p i)))
binary_has r binary.Since e f a b is as' p = λ i. value.Bool (since (λ q. truth_of (is q i)) (λ q. truth_of (as' q i)) p)
binary_has r binary.Triggered e f a b is as' p = λ i. value.Bool (triggered (λ q. truth_of (is q i)) (λ q. truth_of (as' q i)) p)
binary_has r binary.Eq e f a b is as' p = λ i. value.Bool (same_value (is p i) (as' p i))
binary_has r binary.Ne e f a b is as' p = λ i. value.Bool (not (same_value (is p i) (as' p i)))
binary_has r binary.Lt e f a b is as' p = λ i. value.Bool (int_lt (number_of (is p i)) (number_of (as' p i)))
binary_has r binary.Le e f a b is as' p = λ i. value.Bool (int_le (number_of (is p i)) (number_of (as' p i)))
binary_has r binary.Gt e f a b is as' p = λ i. value.Bool (int_lt (number_of (as' p i)) (number_of (is p i)))
binary_has r binary.Ge e f a b is as' p = λ i. value.Bool (int_le (number_of (as' p i)) (number_of (is p i)))
binary_has r binary.Add e f a b is as' p = λ i. value.Int (number_of (is p i) +ℤ number_of (as' p i))
binary_has r binary.Sub e f a b is as' p = λ i. value.Int (number_of (is p i) -ℤ number_of (as' p i))
binary_has r binary.Mul e f a b is as' p = λ i. value.Int (number_of (is p i) *ℤ number_of (as' p i))

-- ---- several truth values

all_hold : (as' : List (ℕ → Bool)) (p : ℕ) → list_all (λ a. a p) as' ≡ list_all (λ b. b) (map (λ a. a p) as')
all_hold [] p = refl
all_hold (a ∷ as') p = ap (λ b. a p && b) (all_hold as' p)

some_hold : (as' : List (ℕ → Bool)) (p : ℕ) → list_any (λ a. a p) as' ≡ list_any (λ b. b) (map (λ a. a p) as')
some_hold [] p = refl
some_hold (a ∷ as') p = ap (λ b. a p || b) (some_hold as' p)

quantified_is : (r : Reading) (word : QuantifierWord) (fs : Formulas) (bs : List Bool) (p : ℕ) → map (λ a. a p) (truths_at r fs) ≡ bs → value_at r (quantified_formula word fs) p ≡ value.Bool (quantified word bs)
quantified_is r quantifiers.ForAll fs bs p is = ap (λ b. value.Bool b) (all_hold (truths_at r fs) p ∙ ap (list_all (λ b. b)) is)
quantified_is r quantifiers.Exists fs bs p is = ap (λ b. value.Bool b) (some_hold (truths_at r fs) p ∙ ap (list_any (λ b. b)) is)

-- ---- expressions

-- the position of a part, under a `next` or not
abbrev moved : (under : Bool) → ℕ → ℕ
moved under x = if under then suc x else x

module _ (r : Reading) (s : Senses) (params : ℕ) (good : Parts) (set : Setting)
    (leaves : (l : Leaf) → good.leaf l ≡ true → Has r (leaf_formula params l) (leaf_sense s l))
    (reads : (first count : ℕ) → good.array first count ≡ true → (i : ℕ) → i < count → (p : ℕ) → r.variable (first + i) p ≡ s.variable (first + i) p)
    (have : (first count : ℕ) → good.array first count ≡ true → HaveValues good set s) where
  -- an expression without a fault in which everything is put in, and written out
  pub record IsFine (o : Around) (t : ResolvedTree) : Type 0 where
    pub put : is_put_in good t ≡ true
    pub out : all_right t ≡ true
    pub none : faults set o t ≡ []

  abbrev AreFine : Around → ResolvedTrees → Type 0
  AreFine o ResolvedTrees.none = Unit {0}
  AreFine o (ResolvedTrees.one_more t ts) = IsFine o t × (is_truth (kind_of set.known t) ≡ true) × AreFine o ts

  operands_fine : (o : Around) (at : Spot) (operators : List Spot) (ts : ResolvedTrees) → each_put_in good ts ≡ true → each_right ts ≡ true → operand_faults set o at operators ts ≡ [] → AreFine o ts
  operands_fine o at operators ResolvedTrees.none put out none = tt
  operands_fine o at operators (ResolvedTrees.one_more t ts) put out none =
      let tests = and_parts (is_put_in good t) (each_put_in good ts) put in
      let outs = and_parts (all_right t) (each_right ts) out in
      let left = empty_parts (faults set o t) _ none in
      let more = empty_parts (wrong (is_truth (kind_of set.known t)) _) (operand_faults set o at (drop 1 operators) ts) left.1 in
      (record { put = tests.0; out = outs.0; none = left.0 }, right _ _ more.0, operands_fine o at (drop 1 operators) ts tests.1 outs.1 more.1)

  copies_fine : (o : Around) (ts : ResolvedTrees) → each_put_in good ts ≡ true → each_right ts ≡ true → copy_faults set o ts ≡ [] → AreFine o ts
  copies_fine o ResolvedTrees.none put out none = tt
  copies_fine o (ResolvedTrees.one_more t ts) put out none =
      let tests = and_parts (is_put_in good t) (each_put_in good ts) put in
      let outs = and_parts (all_right t) (each_right ts) out in
      let left = empty_parts (faults set o t) _ none in
      let more = empty_parts (wrong (is_truth (kind_of set.known t)) (first_of t)) (copy_faults set o ts) left.1 in
      (record { put = tests.0; out = outs.0; none = left.0 }, right _ _ more.0, copies_fine o ts tests.1 outs.1 more.1)

  -- no `next` stands in another
  never_nested : (o : Around) (at : Mark) → is_some o.next ≡ true → next_faults set.bans o at ≡ [] → ⊥
  never_nested o at some none = by o.next refl some
    where
      inner : in_next o.next at ≡ []
      inner = (empty_parts (in_next o.next at) _ (empty_parts (fault_if set.bans.next _ at.spot) _ none).1).0

      by : (m : Option Mark) → o.next ≡ m → is_some m ≡ true → ⊥
      by None is some = false≢true some
      by (Some outer) is some = not_empty _ _ (sym (ap (λ (m : Option Mark). in_next m at) is) ∙ inner)

  -- the operands of an operator
  record AreOperands (o : Around) (word : BinaryWord) (a b : ResolvedTree) : Type 0 where
    first : IsFine o a
    second : IsFine o b
    taken : takes word (kind_of set.known a) (kind_of set.known b) ≡ true

  operands : (o : Around) (at : Mark) (word : BinaryWord) (a b : ResolvedTree) → form_put_in good (Form.Binary word a b) ≡ true → form_right (Form.Binary word a b) ≡ true → form_faults set o at (Form.Binary word a b) ≡ [] →
      AreOperands (within (is_past word) at o) word a b
  operands o at word a b put out none =
      let inner = within (is_past word) at o in
      let tests = and_parts (is_put_in good a) (is_put_in good b) put in
      let outs = and_parts (all_right a) (all_right b) out in
      let left = empty_parts (faults set inner a) _ none in
      let behind = empty_parts (operator_faults set (is_past word) o.next at) _ left.1 in
      let other = empty_parts (faults set inner b) (binary_faults word (kind_of set.known a) (kind_of set.known b) at.spot) behind.1 in
      let last = empty_parts (wrong (takes word (kind_of set.known a) (kind_of set.known b)) at.spot) _ other.1 in
      record { first = record { put = tests.0; out = outs.0; none = left.0 }; second = record { put = tests.1; out = outs.1; none = other.0 }; taken = right _ at.spot last.0 }

  -- what is made of a formula with the value of a part has a value
  abbrev Makes : (Formula → Formula) → Sense → Bool → ℕ → Value → Type 0
  Makes make a under x b = (f : Formula) → HasAt r f (a (moved under x)) (moved under x) → HasAt r (make f) b x

  equation_makes : (under : Bool) (a : Sense) (i x : ℕ) → Makes (λ f. equals under f i) a under x (value.Bool (same_value (a (moved under x)) (value.Int (pos i))))
  equation_makes true a i x f is = λ j. value.Bool (same_value (is j) (value.Int (pos i)))
  equation_makes false a i x f is = λ j. value.Bool (same_value (is j) (value.Int (pos i)))

  mutual
    pub side_has : (o : Around) (t : ResolvedTree) → IsFine o t → (under : Bool) → (under ≡ true → is_some o.next ≡ true) → (make : Formula → Formula) (x : ℕ) (b : Value) → IsMadeOf (kind_of set.known t) b →
        Makes make (sense s t) under x b → HasAt r (side set.known params t under make) b x
    side_has o (tree first at form) fine under next make x b made makes = form_has o at form fine.put fine.out fine.none under next make x b made makes

    form_has : (o : Around) (at : Mark) (form : Form) → form_put_in good form ≡ true → form_right form ≡ true → form_faults set o at form ≡ [] → (under : Bool) → (under ≡ true → is_some o.next ≡ true) →
        (make : Formula → Formula) (x : ℕ) (b : Value) → IsMadeOf (form_kind set.known form) b → Makes make (form_sense s form) under x b → HasAt r (form_side set.known params form under make) b x
    form_has o at (Form.LeafOf l) put out none under next make x b made makes = makes (leaf_formula params l) (leaves l put (moved under x))
    form_has o at (Form.PredicateOf k ts) put out none under next make x b made makes = absurd (false≢true put)
    form_has o at (Form.MisuseOf m ts) put out none under next make x b made makes = absurd (false≢true put)
    form_has o at (Form.Next t) put out none true next make x b made makes = absurd (never_nested o at (next refl) (empty_parts (next_faults set.bans o at) _ none).0)
    form_has o at (Form.Next t) put out none false next make x b made makes =
        side_has (under_next at o) t (record { put = put; out = out; none = (empty_parts (next_faults set.bans o at) _ none).1 }) true (λ e. refl) (λ f. make (NextOf f)) x b made (λ f is. makes (NextOf f) is)
    form_has o at (Form.Prefix word t) put out none under next make x b made makes =
        let inner = within (is_past_prefix word) at o in
        let behind = empty_parts (operator_faults set (is_past_prefix word) o.next at) _ none in
        let left = empty_parts (faults set inner t) _ behind.1 in
        let fine : IsFine inner t = record { put = put; out = out; none = left.0 } in
        let all : Has r (formula_of set.known params t) (λ q. sense s t q) = (λ q. side_has inner t fine false (λ e. absurd (false≢true e)) (λ f. f) q (sense s t q) (inl (right _ at.spot left.1)) (λ f is. is)) in
        makes (prefix_formula word (formula_of set.known params t)) (prefix_has r word (formula_of set.known params t) (λ q. sense s t q) all (moved under x))
    form_has o at (Form.Mod t number_at n) put out none under next make x b made makes =
        let left = empty_parts (faults set o t) _ none in
        side_has o t (record { put = put; out = out; none = left.0 }) under next (λ f. make (Remainder f n)) x b (inr (never_truth (reduced n) b (reduced_whole n) made))
        (λ f is. makes (Remainder f n) (λ i. value.Int (int_rem_euclid (number_of (is i)) n)))
    form_has o at (Form.And ts operators) put out none under next make x b made makes =
        makes (Conjunction (each_formula set.known params ts))
        (ap (λ b. value.Bool b) (all_hold (truths_at r (each_formula set.known params ts)) (moved under x) ∙ ap (list_all (λ b. b)) (each_has o ts (operands_fine o at.spot (at.spot ∷ operators) ts put out none) (moved under x))))
    form_has o at (Form.Or ts operators) put out none under next make x b made makes =
        makes (Disjunction (each_formula set.known params ts))
        (ap (λ b. value.Bool b) (some_hold (truths_at r (each_formula set.known params ts)) (moved under x) ∙ ap (list_any (λ b. b)) (each_has o ts (operands_fine o at.spot (at.spot ∷ operators) ts put out none) (moved under x))))
    form_has o at (Form.Index first count t) put out none under next make x b made makes =
        let tests = and_parts (good.array first count) (is_put_in good t) put in
        let values = have first count tests.0 in
        let elements = values.arrays first count tests.0 in
        let left = empty_parts (faults set o t) _ none in
        let read = empty_parts (variable_faults set.bans o at (is_system set.known first)) _ left.1 in
        let last = empty_parts (wrong (is_whole (kind_of set.known t)) (first_of t)) _ read.1 in
        let fine : IsFine o t = record { put = tests.1; out = out; none = left.0 } in
        let y = moved under x in
        let found = index_is good set s values o at first count t tests.0 tests.1 none y in
        let number = number_within good set s values o t tests.1 left.0 (right _ (first_of t) last.0) y in
        let element = s.variable (first + found.index) y in
        let here = λ (i : ℕ). side_has o t fine false (λ e. absurd (false≢true e)) (λ f. equals false f i) y (value.Bool (same_value (sense s t y) (value.Int (pos i)))) (inr refl) (equation_makes false (sense s t) i y)
        ∙ ap (λ v. value.Bool (same_value v (value.Int (pos i)))) found.is in
        let outside = λ (i : ℕ). side_has o t fine under next (λ f. equals under f i) x (value.Bool (same_value (sense s t y) (value.Int (pos i)))) (inr refl) (equation_makes under (sense s t) i x)
        ∙ ap (λ v. value.Bool (same_value v (value.Int (pos i)))) found.is in
        let meant : element ≡ form_sense s (Form.Index first count t) y = λ i. s.variable (first + nat_abs (number_of (sym found.is i))) y in
        element_has r (get_or set.known.variables first Anything) first count found.index element y x
        (λ i. side set.known params t false (λ f. equals false f i)) (λ i. side set.known params t under (λ f. equals under f i)) found.below elements.few here outside
        (reads first count tests.0 found.index found.below y) (elements.values found.index found.below y) make b made (λ f is. makes f (is ∙ meant))
        (kind_of set.known t) (sense s t y) found.is number count refl
    form_has o at (Form.Quantified word variable extents.Open low high ts) put out none under next make x b made makes = absurd (false≢true out)
    form_has o at (Form.Quantified word variable extents.Wrong low high ts) put out none under next make x b made makes = absurd (false≢true out)
    form_has o at (Form.Quantified word variable extents.Right low high ts) put out none under next make x b made makes =
        let tests = and_parts (is_put_in good low) _ put in
        let more = and_parts (is_put_in good high) (each_put_in good ts) tests.1 in
        let copies = (empty_parts (fault_if false 14 at.spot) _ (empty_parts _ _ none).1).1 in
        makes (quantified_formula word (each_formula set.known params ts)) (quantified_is r word (each_formula set.known params ts) (truths (senses s ts) (moved under x)) (moved under x) (each_has o ts (copies_fine o ts more.1 out copies) (moved under x)))
    form_has o at (Form.Binary binary.Add c d) put out none under next make x b made makes =
        let both = operands o at binary.Add c d put out none in
        let truth = never_truth (added (kind_of set.known c) (kind_of set.known d)) b (added_whole (kind_of set.known c) (kind_of set.known d)) made in
        side_has o c both.first under next (λ f. side set.known params d under (λ g. make (binary_formula binary.Add f g))) x b (inr truth)
        (λ f is. side_has o d both.second under next (λ g. make (binary_formula binary.Add f g)) x b (inr truth) (λ g is'. makes (binary_formula binary.Add f g) (λ i. value.Int (number_of (is i) +ℤ number_of (is' i)))))
    form_has o at (Form.Binary binary.Sub c d) put out none under next make x b made makes =
        let both = operands o at binary.Sub c d put out none in
        let truth = never_truth (subtracted (kind_of set.known c) (kind_of set.known d)) b (subtracted_whole (kind_of set.known c) (kind_of set.known d)) made in
        side_has o c both.first under next (λ f. side set.known params d under (λ g. make (binary_formula binary.Sub f g))) x b (inr truth)
        (λ f is. side_has o d both.second under next (λ g. make (binary_formula binary.Sub f g)) x b (inr truth) (λ g is'. makes (binary_formula binary.Sub f g) (λ i. value.Int (number_of (is i) -ℤ number_of (is' i)))))
    form_has o at (Form.Binary binary.Mul c d) put out none under next make x b made makes =
        let both = operands o at binary.Mul c d put out none in
        let truth = never_truth (multiplied (kind_of set.known c) (kind_of set.known d)) b (multiplied_whole (kind_of set.known c) (kind_of set.known d)) made in
        side_has o c both.first under next (λ f. side set.known params d under (λ g. make (binary_formula binary.Mul f g))) x b (inr truth)
        (λ f is. side_has o d both.second under next (λ g. make (binary_formula binary.Mul f g)) x b (inr truth) (λ g is'. makes (binary_formula binary.Mul f g) (λ i. value.Int (number_of (is i) *ℤ number_of (is' i)))))
    form_has o at (Form.Binary binary.Eq c d) put out none under next make x b made makes =
        let both = operands o at binary.Eq c d put out none in
        let y = moved under x in
        let v = binary_sense binary.Eq (λ q. sense s c q) (λ q. sense s d q) y in
        makes (side set.known params c false (λ f. side set.known params d false (λ g. binary_formula binary.Eq f g)))
        (side_has o c both.first false (λ e. absurd (false≢true e)) (λ f. side set.known params d false (λ g. binary_formula binary.Eq f g)) y v (inr refl)
        (λ f is. side_has o d both.second false (λ e. absurd (false≢true e)) (λ g. binary_formula binary.Eq f g) y v (inr refl) (λ g is'. λ i. value.Bool (same_value (is i) (is' i)))))
    form_has o at (Form.Binary binary.Ne c d) put out none under next make x b made makes =
        let both = operands o at binary.Ne c d put out none in
        let y = moved under x in
        let v = binary_sense binary.Ne (λ q. sense s c q) (λ q. sense s d q) y in
        makes (side set.known params c false (λ f. side set.known params d false (λ g. binary_formula binary.Ne f g)))
        (side_has o c both.first false (λ e. absurd (false≢true e)) (λ f. side set.known params d false (λ g. binary_formula binary.Ne f g)) y v (inr refl)
        (λ f is. side_has o d both.second false (λ e. absurd (false≢true e)) (λ g. binary_formula binary.Ne f g) y v (inr refl) (λ g is'. λ i. value.Bool (not (same_value (is i) (is' i))))))
    form_has o at (Form.Binary binary.Lt c d) put out none under next make x b made makes =
        let both = operands o at binary.Lt c d put out none in
        let y = moved under x in
        let v = binary_sense binary.Lt (λ q. sense s c q) (λ q. sense s d q) y in
        makes (side set.known params c false (λ f. side set.known params d false (λ g. binary_formula binary.Lt f g)))
        (side_has o c both.first false (λ e. absurd (false≢true e)) (λ f. side set.known params d false (λ g. binary_formula binary.Lt f g)) y v (inr refl)
        (λ f is. side_has o d both.second false (λ e. absurd (false≢true e)) (λ g. binary_formula binary.Lt f g) y v (inr refl) (λ g is'. λ i. value.Bool (int_lt (number_of (is i)) (number_of (is' i))))))
    form_has o at (Form.Binary binary.Le c d) put out none under next make x b made makes =
        let both = operands o at binary.Le c d put out none in
        let y = moved under x in
        let v = binary_sense binary.Le (λ q. sense s c q) (λ q. sense s d q) y in
        makes (side set.known params c false (λ f. side set.known params d false (λ g. binary_formula binary.Le f g)))
        (side_has o c both.first false (λ e. absurd (false≢true e)) (λ f. side set.known params d false (λ g. binary_formula binary.Le f g)) y v (inr refl)
        (λ f is. side_has o d both.second false (λ e. absurd (false≢true e)) (λ g. binary_formula binary.Le f g) y v (inr refl) (λ g is'. λ i. value.Bool (int_le (number_of (is i)) (number_of (is' i))))))
    form_has o at (Form.Binary binary.Gt c d) put out none under next make x b made makes =
        let both = operands o at binary.Gt c d put out none in
        let y = moved under x in
        let v = binary_sense binary.Gt (λ q. sense s c q) (λ q. sense s d q) y in
        makes (side set.known params c false (λ f. side set.known params d false (λ g. binary_formula binary.Gt f g)))
        (side_has o c both.first false (λ e. absurd (false≢true e)) (λ f. side set.known params d false (λ g. binary_formula binary.Gt f g)) y v (inr refl)
        (λ f is. side_has o d both.second false (λ e. absurd (false≢true e)) (λ g. binary_formula binary.Gt f g) y v (inr refl) (λ g is'. λ i. value.Bool (int_lt (number_of (is' i)) (number_of (is i))))))
    form_has o at (Form.Binary binary.Ge c d) put out none under next make x b made makes =
        let both = operands o at binary.Ge c d put out none in
        let y = moved under x in
        let v = binary_sense binary.Ge (λ q. sense s c q) (λ q. sense s d q) y in
        makes (side set.known params c false (λ f. side set.known params d false (λ g. binary_formula binary.Ge f g)))
        (side_has o c both.first false (λ e. absurd (false≢true e)) (λ f. side set.known params d false (λ g. binary_formula binary.Ge f g)) y v (inr refl)
        (λ f is. side_has o d both.second false (λ e. absurd (false≢true e)) (λ g. binary_formula binary.Ge f g) y v (inr refl) (λ g is'. λ i. value.Bool (int_le (number_of (is' i)) (number_of (is i))))))
    form_has o at (Form.Binary binary.Implies c d) put out none under next make x b made makes =
        let both = operands o at binary.Implies c d put out none in
        let truth = and_parts (is_truth (kind_of set.known c)) (is_truth (kind_of set.known d)) both.taken in
        makes (binary_formula binary.Implies (formula_of set.known params c) (formula_of set.known params d))
        (binary_has r binary.Implies (formula_of set.known params c) (formula_of set.known params d) (λ q. sense s c q) (λ q. sense s d q) (λ q. side_has o c both.first false (λ e. absurd (false≢true e)) (λ f. f) q (sense s c q) (inl truth.0) (λ f is. is)) (λ q. side_has o d both.second false (λ e. absurd (false≢true e)) (λ f. f) q (sense s d q) (inl truth.1) (λ f is. is)) (moved under x))
    form_has o at (Form.Binary binary.Iff c d) put out none under next make x b made makes =
        let both = operands o at binary.Iff c d put out none in
        let truth = and_parts (is_truth (kind_of set.known c)) (is_truth (kind_of set.known d)) both.taken in
        makes (binary_formula binary.Iff (formula_of set.known params c) (formula_of set.known params d))
        (binary_has r binary.Iff (formula_of set.known params c) (formula_of set.known params d) (λ q. sense s c q) (λ q. sense s d q) (λ q. side_has o c both.first false (λ e. absurd (false≢true e)) (λ f. f) q (sense s c q) (inl truth.0) (λ f is. is)) (λ q. side_has o d both.second false (λ e. absurd (false≢true e)) (λ f. f) q (sense s d q) (inl truth.1) (λ f is. is)) (moved under x))
    form_has o at (Form.Binary binary.Since c d) put out none under next make x b made makes =
        let both = operands o at binary.Since c d put out none in
        let truth = and_parts (is_truth (kind_of set.known c)) (is_truth (kind_of set.known d)) both.taken in
        makes (binary_formula binary.Since (formula_of set.known params c) (formula_of set.known params d))
        (binary_has r binary.Since (formula_of set.known params c) (formula_of set.known params d) (λ q. sense s c q) (λ q. sense s d q) (λ q. side_has (within true at o) c both.first false (λ e. absurd (false≢true e)) (λ f. f) q (sense s c q) (inl truth.0) (λ f is. is)) (λ q. side_has (within true at o) d both.second false (λ e. absurd (false≢true e)) (λ f. f) q (sense s d q) (inl truth.1) (λ f is. is)) (moved under x))
    form_has o at (Form.Binary binary.Triggered c d) put out none under next make x b made makes =
        let both = operands o at binary.Triggered c d put out none in
        let truth = and_parts (is_truth (kind_of set.known c)) (is_truth (kind_of set.known d)) both.taken in
        makes (binary_formula binary.Triggered (formula_of set.known params c) (formula_of set.known params d))
        (binary_has r binary.Triggered (formula_of set.known params c) (formula_of set.known params d) (λ q. sense s c q) (λ q. sense s d q) (λ q. side_has (within true at o) c both.first false (λ e. absurd (false≢true e)) (λ f. f) q (sense s c q) (inl truth.0) (λ f is. is)) (λ q. side_has (within true at o) d both.second false (λ e. absurd (false≢true e)) (λ f. f) q (sense s d q) (inl truth.1) (λ f is. is)) (moved under x))

    each_has : (o : Around) (ts : ResolvedTrees) → AreFine o ts → (p : ℕ) → map (λ a. a p) (truths_at r (each_formula set.known params ts)) ≡ truths (senses s ts) p
    each_has o ResolvedTrees.none fine p = refl
    each_has o (ResolvedTrees.one_more t ts) fine p = let rest = each_has o ts fine.2 p in λ i. truth_of (side_has o t fine.0 false (λ e. absurd (false≢true e)) (λ f. f) p (sense s t p) (inl fine.1) (λ f is. is) i) ∷ rest i

  -- the formula of a truth value
  pub formula_has : (o : Around) (t : ResolvedTree) → IsFine o t → is_truth (kind_of set.known t) ≡ true → (p : ℕ) → value_at r (formula_of set.known params t) p ≡ sense s t p
  formula_has o t fine truth p = side_has o t fine false (λ e. absurd (false≢true e)) (λ f. f) p (sense s t p) (inl truth) (λ f is. is)
