-- What is banned where an expression stands isn't in its formula.
use Rattle.std.proofs.Common.{◌≡◌, ◌⊎◌, inl, inr, ℕ, zero, suc, ◌+◌, ◌<◌, ◌≤◌, ℤ, pos, Bool, true, false, ◌&&◌, ◌||◌, if◌then◌else◌, List, [], ◌∷◌, ◌++◌, drop, get_or, Option, Some, refl, sym, ◌∙◌, arith}
use Rattle.std.proofs.lemmas.Bool.{false≢true, and_parts, and_from}
use Rattle.spec_model.specs.declared.value.Value.{Value}
use Rattle.spec_model.specs.declared.value.Value.TheVariants as value
use Rattle.spec_model.specs.declared.expr.Compare.{Compare}
use Rattle.spec_model.specs.declared.expr.Compare.TheVariants as compares
use Rattle.spec_model.specs.declared.expr.Past.{Past}
use Rattle.spec_model.specs.declared.expr.Past.TheVariants as pasts
use Rattle.spec_model.specs.Syntax.{Formula, Constant, Variable, NextOf, Negation, Conjunction, Disjunction, Implication, Equivalence, Comparison, Sum, Difference, Product, Remainder, PastOf, Formulas, formulas}
use Rattle.spectra_trees.specs.declared.tree.PrefixWord.{PrefixWord}
use Rattle.spectra_trees.specs.declared.tree.PrefixWord.TheVariants as prefixes
use Rattle.spectra_trees.specs.declared.tree.BinaryWord.{BinaryWord}
use Rattle.spectra_trees.specs.declared.tree.BinaryWord.TheVariants as binary
use Rattle.spectra_resolved.specs.declared.spot.Spot.{Spot}
use Rattle.spectra_resolved.specs.declared.spot.Mark.{Mark}
use Rattle.spectra_resolved.specs.declared.tree.Extent.{Extent}
use Rattle.spectra_resolved.specs.declared.tree.Extent.TheVariants as extents
use Rattle.spectra_resolved.specs.declared.tree.Leaf.{Leaf}
use Rattle.spectra_resolved.specs.declared.tree.Leaf.TheVariants as leaf
use Rattle.spectra_resolved.specs.declared.tree.QuantifierWord.{QuantifierWord}
use Rattle.spectra_resolved.specs.declared.tree.QuantifierWord.TheVariants as quantifiers
use Rattle.spectra_resolved.specs.Resolved.{ResolvedTree, tree, Form, ResolvedTrees}
use Rattle.spectra_copies.specs.Levels.{is_row_word}
use Rattle.spectra_judge.specs.Findings.{fault_if}
use Rattle.spectra_judge.specs.Kinds.{Kind, Anything, is_truth, is_whole, is_outside}
use Rattle.spectra_judge.specs.Operators.{is_past, is_past_prefix}
use Rattle.spectra_judge.specs.declared.around.Around.{Around}
use Rattle.spectra_judge.specs.Around.{outer_of, under_next, in_bound, within, next_faults, variable_faults}
use Rattle.spectra_judge.specs.Known.{Known, Setting, is_system}
use Rattle.spectra_judge.specs.Judged.{kind_of, first_of, is_wrong, wrong, binary_faults, remainder_faults, operator_faults, leaf_faults, index_faults, faults, form_faults, operand_faults, copy_faults}
use Rattle.spectra_judge.specs.PutIn.{Parts, is_bound_at, seen_inside, is_put_in, form_put_in, each_put_in}
use Rattle.spectra_judge.proofs.Empty.{empty_parts, no_fault}
use Rattle.spectra_cases.specs.Formulas.{Reading, One, Here, Outside, reading_of, is_comparing, leaf_formula, prefix_formula, binary_formula, cases_of, numbers_below, chosen, equals, index_side, quantified_formula, side, form_side, each_formula, formula_of}
use Rattle.spectra_cases.proofs.ReadElements.{IsRead, is_read}

-- a test that a formula passes where a part of it does
pub record IsSome (test : Formula → Bool) (tests : Formulas → Bool) : Type 0 where
  pub constant : (v : Value) → test (Constant v) ≡ false
  pub negation : (f : Formula) → test (Negation f) ≡ test f
  pub conjunction : (fs : Formulas) → test (Conjunction fs) ≡ tests fs
  pub disjunction : (fs : Formulas) → test (Disjunction fs) ≡ tests fs
  pub implication : (f g : Formula) → test (Implication f g) ≡ (test f || test g)
  pub equivalence : (f g : Formula) → test (Equivalence f g) ≡ (test f || test g)
  pub comparison : (c : Compare) (f g : Formula) → test (Comparison c f g) ≡ (test f || test g)
  pub sum : (f g : Formula) → test (Sum f g) ≡ (test f || test g)
  pub difference : (f g : Formula) → test (Difference f g) ≡ (test f || test g)
  pub product : (f g : Formula) → test (Product f g) ≡ (test f || test g)
  pub remainder : (f : Formula) (n : ℤ) → test (Remainder f n) ≡ test f
  pub past : (op : Past) (fs : Formulas) → test (PastOf op fs) ≡ tests fs
  pub none : tests Formulas.none ≡ false
  pub more : (f : Formula) (fs : Formulas) → tests (Formulas.one_more f fs) ≡ (test f || tests fs)

neither : (a b : Bool) → a ≡ false → b ≡ false → (a || b) ≡ false
neither true b e f = absurd (false≢true (sym e))
neither false b e f = f

module _ (test : Formula → Bool) (tests : Formulas → Bool) (is : IsSome test tests) where
  one : (f : Formula) → test f ≡ false → tests (formulas (f ∷ [])) ≡ false
  one f e = is.more f Formulas.none ∙ neither (test f) (tests Formulas.none) e is.none

  two : (f g : Formula) → test f ≡ false → test g ≡ false → tests (formulas (f ∷ g ∷ [])) ≡ false
  two f g e h = is.more f (formulas (g ∷ [])) ∙ neither (test f) (tests (formulas (g ∷ []))) e (one g h)

  prefix_none : (word : PrefixWord) (f : Formula) → test f ≡ false → test (prefix_formula word f) ≡ false
  prefix_none prefixes.Not f e = is.negation f ∙ e
  prefix_none prefixes.Prev f e = is.past pasts.Prev (formulas (f ∷ [])) ∙ one f e
  prefix_none prefixes.Once f e = is.past pasts.Once (formulas (f ∷ [])) ∙ one f e
  prefix_none prefixes.Historically f e = is.past pasts.Historically (formulas (f ∷ [])) ∙ one f e

  binary_none : (word : BinaryWord) (f g : Formula) → test f ≡ false → test g ≡ false → test (binary_formula word f g) ≡ false
  binary_none binary.Implies f g e h = is.implication f g ∙ neither (test f) (test g) e h
  binary_none binary.Iff f g e h = is.equivalence f g ∙ neither (test f) (test g) e h
  binary_none binary.Since f g e h = is.past pasts.Since (formulas (f ∷ g ∷ [])) ∙ two f g e h
  binary_none binary.Triggered f g e h = is.past pasts.Triggered (formulas (f ∷ g ∷ [])) ∙ two f g e h
  binary_none binary.Eq f g e h = is.comparison compares.Eq f g ∙ neither (test f) (test g) e h
  binary_none binary.Ne f g e h = is.comparison compares.Ne f g ∙ neither (test f) (test g) e h
  binary_none binary.Lt f g e h = is.comparison compares.Lt f g ∙ neither (test f) (test g) e h
  binary_none binary.Le f g e h = is.comparison compares.Le f g ∙ neither (test f) (test g) e h
  binary_none binary.Gt f g e h = is.comparison compares.Gt f g ∙ neither (test f) (test g) e h
  binary_none binary.Ge f g e h = is.comparison compares.Ge f g ∙ neither (test f) (test g) e h
  binary_none binary.Add f g e h = is.sum f g ∙ neither (test f) (test g) e h
  binary_none binary.Sub f g e h = is.difference f g ∙ neither (test f) (test g) e h
  binary_none binary.Mul f g e h = is.product f g ∙ neither (test f) (test g) e h

  quantified_none : (word : QuantifierWord) (fs : Formulas) → tests fs ≡ false → test (quantified_formula word fs) ≡ false
  quantified_none quantifiers.ForAll fs e = is.conjunction fs ∙ e
  quantified_none quantifiers.Exists fs e = is.disjunction fs ∙ e

  -- an equation with a number
  pub number_none : (f : Formula) (i : ℕ) → test f ≡ false → test (Comparison compares.Eq f (Constant (value.Int (pos i)))) ≡ false
  number_none f i e = is.comparison compares.Eq f (Constant (value.Int (pos i))) ∙ neither (test f) (test (Constant (value.Int (pos i)))) e (is.constant (value.Int (pos i)))

  -- each case of an index
  module _ (is_number with_element : ℕ → Formula) (first n : ℕ) (equations : (i : ℕ) → i < n → test (is_number i) ≡ false) (elements : (i : ℕ) → i < n → test (with_element (first + i)) ≡ false) where
    cases_none : (from m : ℕ) → from + m ≤ n → tests (formulas (cases_of is_number with_element first (numbers_below from m))) ≡ false
    cases_none from zero few = is.none
    cases_none from (suc m) few =
        is.more (Conjunction (formulas (is_number from ∷ with_element (first + from) ∷ []))) (formulas (cases_of is_number with_element first (numbers_below (suc from) m)))
        ∙ neither _ _
        (is.conjunction (formulas (is_number from ∷ with_element (first + from) ∷ [])) ∙ two (is_number from) (with_element (first + from)) (equations from (omega arith)) (elements from (omega arith)))
        (cases_none (suc from) m (omega arith))

    pub chosen_none : test (chosen is_number with_element first n) ≡ false
    chosen_none = is.disjunction (formulas (cases_of is_number with_element first (numbers_below 0 n))) ∙ cases_none 0 n (omega arith)

-- ---- what may stand in an expression, and more

pub record IsWithin (good more : Parts) : Type 0 where
  pub leaf : (l : Leaf) → good.leaf l ≡ true → more.leaf l ≡ true
  pub array : (first n : ℕ) → good.array first n ≡ true → more.array first n ≡ true

inside_within : (extent : Extent) (variable : Spot) (good more : Parts) → IsWithin good more → IsWithin (seen_inside extent variable good) (seen_inside extent variable more)
inside_within extents.Right variable good more is = is
inside_within extents.Open variable good more is = record { leaf = λ l. kept (is_bound_at variable l) (good.leaf l) (more.leaf l) (is.leaf l); array = is.array }
  where
    kept : (b g m : Bool) → (g ≡ true → m ≡ true) → (b || g) ≡ true → (b || m) ≡ true
    kept true g m stays e = refl
    kept false g m stays e = stays e
inside_within extents.Wrong variable good more is = record { leaf = λ l. kept (is_bound_at variable l) (good.leaf l) (more.leaf l) (is.leaf l); array = is.array }
  where
    kept : (b g m : Bool) → (g ≡ true → m ≡ true) → (b || g) ≡ true → (b || m) ≡ true
    kept true g m stays e = refl
    kept false g m stays e = stays e

mutual
  pub put_more : (t : ResolvedTree) (good more : Parts) → IsWithin good more → is_put_in good t ≡ true → is_put_in more t ≡ true
  put_more (tree first at form) good more is put = form_more form good more is put

  form_more : (form : Form) (good more : Parts) → IsWithin good more → form_put_in good form ≡ true → form_put_in more form ≡ true
  form_more (Form.LeafOf l) good more is put = is.leaf l put
  form_more (Form.PredicateOf k ts) good more is put = absurd (false≢true put)
  form_more (Form.MisuseOf m ts) good more is put = absurd (false≢true put)
  form_more (Form.Next t) good more is put = put_more t good more is put
  form_more (Form.Prefix word t) good more is put = put_more t good more is put
  form_more (Form.Binary word a b) good more is put =
      let parts = and_parts (is_put_in good a) (is_put_in good b) put in and_from _ _ (put_more a good more is parts.0) (put_more b good more is parts.1)
  form_more (Form.Mod t number_at n) good more is put = put_more t good more is put
  form_more (Form.And ts operators) good more is put = each_more ts good more is put
  form_more (Form.Or ts operators) good more is put = each_more ts good more is put
  form_more (Form.Index first n t) good more is put =
      let parts = and_parts (good.array first n) (is_put_in good t) put in and_from _ _ (is.array first n parts.0) (put_more t good more is parts.1)
  form_more (Form.Quantified word variable extent low high ts) good more is put =
      let parts = and_parts (is_put_in good low) (is_put_in good high && each_put_in (seen_inside extent variable good) ts) put in
      let rest = and_parts (is_put_in good high) (each_put_in (seen_inside extent variable good) ts) parts.1 in
      and_from _ _ (put_more low good more is parts.0)
      (and_from _ _ (put_more high good more is rest.0) (each_more ts (seen_inside extent variable good) (seen_inside extent variable more) (inside_within extent variable good more is) rest.1))

  pub each_more : (ts : ResolvedTrees) (good more : Parts) → IsWithin good more → each_put_in good ts ≡ true → each_put_in more ts ≡ true
  each_more ResolvedTrees.none good more is put = refl
  each_more (ResolvedTrees.one_more t ts) good more is put =
      let parts = and_parts (is_put_in good t) (each_put_in good ts) put in and_from _ _ (put_more t good more is parts.0) (each_more ts good more is parts.1)

-- Where variables of quantifiers may stand anyway, they may in copies.
bound_leaf : (variable : Spot) (good : Parts) → ((spot : Spot) → good.leaf (leaf.Bound spot) ≡ true) → (l : Leaf) → (is_bound_at variable l || good.leaf l) ≡ true → good.leaf l ≡ true
bound_leaf variable good bounds (leaf.Truth b) e = e
bound_leaf variable good bounds (leaf.Number z) e = e
bound_leaf variable good bounds (leaf.EnumName n) e = e
bound_leaf variable good bounds (leaf.Variable k) e = e
bound_leaf variable good bounds (leaf.Parameter k) e = e
bound_leaf variable good bounds (leaf.Own k) e = e
bound_leaf variable good bounds (leaf.Define k) e = e
bound_leaf variable good bounds (leaf.Bound spot) e = bounds spot
bound_leaf variable good bounds (leaf.Hole h) e = e

pub outside : (extent : Extent) (variable : Spot) (good : Parts) → ((spot : Spot) → good.leaf (leaf.Bound spot) ≡ true) → IsWithin (seen_inside extent variable good) good
outside extents.Right variable good bounds = record { leaf = λ l e. e; array = λ first n e. e }
outside extents.Open variable good bounds = record { leaf = bound_leaf variable good bounds; array = λ first n e. e }
outside extents.Wrong variable good bounds = record { leaf = bound_leaf variable good bounds; array = λ first n e. e }

-- ---- expressions

-- Let a test be passed by what is banned.
module _ (s : Setting) (p : ℕ) (good : Parts) (bounds : (spot : Spot) → good.leaf (leaf.Bound spot) ≡ true) (test : Formula → Bool) (tests : Formulas → Bool) (is : IsSome test tests) (Under : Option Mark → Type 0) where
  abbrev known : Known
  known = s.known

  -- No part without parts passes it, and no element of an array, where so a `next` is open.
  pub record HasNone : Type 0 where
    pub deeper : (next : Option Mark) (at : Mark) → Under next → Under (Some (outer_of next at))
    pub leaf : (l : Leaf) (o : Around) (at : Mark) → Under o.next → good.leaf l ≡ true → leaf_faults s o at l ≡ [] → test (leaf_formula p l) ≡ false
    pub some : (first n : ℕ) → good.array first n ≡ true → 0 < n
    pub element : (first n i : ℕ) (o : Around) (at : Mark) → Under o.next → good.array first n ≡ true → i < n → variable_faults s.bans o at (is_system known first) ≡ [] → test (Variable (first + i)) ≡ false

  -- A `next` passes it where its operand does. Or else what is made of such an operand is looked at apart.
  abbrev pub Through : Type 0
  Through = (f : Formula) → test (NextOf f) ≡ test f

  abbrev pub Stops : Type 0
  Stops = (t : ResolvedTree) (o : Around) (at : Mark) → is_put_in good t ≡ true → next_faults s.bans o at ≡ [] → faults s (under_next at o) t ≡ [] → (outer : Formula → Bool) (outers : Formulas → Bool) → IsSome outer outers
      → ((f : Formula) (i : ℕ) → test f ≡ false → outer (equals false f i) ≡ false) → (make : Formula → Formula) → ((f : Formula) → test f ≡ false → outer (make f) ≡ false)
      → outer (side known p t true (λ f. make (NextOf f))) ≡ false

  abbrev pub Mode : Bool → Type 0
  Mode u = Through ⊎ (Stops × (u ≡ false))

  -- another comparison begins
  within_mode : (u : Bool) → Mode u → Mode false
  within_mode u (inl through) = inl through
  within_mode u (inr stops) = inr (stops.0, refl)

  module _ (has : HasNone) where
    -- What is made of a part doesn't pass another test, where it doesn't of each formula that doesn't pass this one.
    abbrev pub IsNone : ResolvedTree → Type 0
    IsNone t = (u : Bool) → Mode u → (o : Around) → Under o.next → is_put_in good t ≡ true → faults s o t ≡ [] → (outer : Formula → Bool) (outers : Formulas → Bool) → IsSome outer outers
        → ((f : Formula) (i : ℕ) → test f ≡ false → outer (equals u f i) ≡ false) → (make : Formula → Formula) → ((f : Formula) → test f ≡ false → outer (make f) ≡ false)
        → outer (side known p t u make) ≡ false

    pub formula_none : (t : ResolvedTree) → IsNone t → Mode false → (o : Around) → Under o.next → is_put_in good t ≡ true → faults s o t ≡ [] → test (formula_of known p t) ≡ false
    formula_none t none mode o under put faultless = none false mode o under put faultless test tests is (number_none test tests is) (λ f. f) (λ f e. e)

    under_within : (past : Bool) (at : Mark) (o : Around) → Under o.next → Under (within past at o).next
    under_within true at o under = under
    under_within false at o under = under

    next_none : (t : ResolvedTree) → IsNone t → (u : Bool) → Mode u → (o : Around) (at : Mark) → Under o.next → is_put_in good t ≡ true → next_faults s.bans o at ≡ [] → faults s (under_next at o) t ≡ []
        → (outer : Formula → Bool) (outers : Formulas → Bool) → IsSome outer outers
        → ((f : Formula) (i : ℕ) → test f ≡ false → outer (equals u f i) ≡ false) → (make : Formula → Formula) → ((f : Formula) → test f ≡ false → outer (make f) ≡ false)
        → outer (side known p t true (λ f. make (NextOf f))) ≡ false
    next_none t none true (inl through) o at under put free faultless outer outers is_outer eq make makes =
        none true (inl through) (under_next at o) (has.deeper o.next at under) put faultless outer outers is_outer eq (λ f. make (NextOf f)) (λ f e. makes (NextOf f) (through f ∙ e))
    next_none t none false (inl through) o at under put free faultless outer outers is_outer eq make makes =
        none true (inl through) (under_next at o) (has.deeper o.next at under) put faultless outer outers is_outer (λ f i e. eq (NextOf f) i (through f ∙ e)) (λ f. make (NextOf f)) (λ f e. makes (NextOf f) (through f ∙ e))
    next_none t none true (inr stops) o at under put free faultless outer outers is_outer eq make makes = absurd (false≢true (sym stops.1))
    next_none t none false (inr stops) o at under put free faultless outer outers is_outer eq make makes = stops.0 t o at put free faultless outer outers is_outer eq make makes

    module _ (word : BinaryWord) (a b : ResolvedTree) (first : IsNone a) (second : IsNone b) (o : Around) (under : Under o.next) (put : (is_put_in good a ≡ true) × (is_put_in good b ≡ true)) (none_a : faults s o a ≡ []) (none_b : faults s o b ≡ []) where
      pair_none : (u : Bool) → Mode u → (outer : Formula → Bool) (outers : Formulas → Bool) → IsSome outer outers → ((f : Formula) (i : ℕ) → test f ≡ false → outer (equals u f i) ≡ false) → (make : Formula → Formula → Formula)
          → ((f g : Formula) → test f ≡ false → test g ≡ false → outer (make f g) ≡ false) → outer (side known p a u (λ f. side known p b u (λ g. make f g))) ≡ false
      pair_none u mode outer outers is_outer eq make makes =
          first u mode o under put.0 none_a outer outers is_outer eq (λ f. side known p b u (λ g. make f g)) (λ f e. second u mode o under put.1 none_b outer outers is_outer eq (make f) (λ g h. makes f g e h))

      pub pair_in : (row comparing : Bool) (u : Bool) → Mode u → (outer : Formula → Bool) (outers : Formulas → Bool) → IsSome outer outers → ((f : Formula) (i : ℕ) → test f ≡ false → outer (equals u f i) ≡ false) → (make : Formula → Formula)
          → ((f : Formula) → test f ≡ false → outer (make f) ≡ false)
          → outer (if row then side known p a u (λ f. side known p b u (λ g. make (binary_formula word f g)))
          else (if comparing then make (side known p a false (λ f. side known p b false (λ g. binary_formula word f g)))
          else make (binary_formula word (side known p a false (λ f. f)) (side known p b false (λ g. g))))) ≡ false
      pair_in true comparing u mode outer outers is_outer eq make makes =
          pair_none u mode outer outers is_outer eq (λ f g. make (binary_formula word f g)) (λ f g e h. makes (binary_formula word f g) (binary_none test tests is word f g e h))
      pair_in false true u mode outer outers is_outer eq make makes =
          makes _ (pair_none false (within_mode u mode) test tests is (number_none test tests is) (binary_formula word) (λ f g e h. binary_none test tests is word f g e h))
      pair_in false false u mode outer outers is_outer eq make makes =
          makes _ (binary_none test tests is word (formula_of known p a) (formula_of known p b)
          (formula_none a first (within_mode u mode) o under put.0 none_a) (formula_none b second (within_mode u mode) o under put.1 none_b))

    index_none : (first n : ℕ) (t : ResolvedTree) → IsNone t → (u : Bool) → Mode u → (o : Around) → Under o.next → is_put_in good t ≡ true → faults s o t ≡ [] → ((i : ℕ) → i < n → test (Variable (first + i)) ≡ false)
        → (outer : Formula → Bool) (outers : Formulas → Bool) → IsSome outer outers → ((f : Formula) (i : ℕ) → test f ≡ false → outer (equals u f i) ≡ false) → (make : Formula → Formula)
        → ((f : Formula) → test f ≡ false → outer (make f) ≡ false) → (array : Kind) (r : Reading) → IsRead array first n r
        → outer (index_side r first n (λ i. side known p t false (λ f. equals false f i)) (λ i. side known p t u (λ f. equals u f i)) make) ≡ false
    index_none first n t none u mode o under put faultless elements outer outers is_outer eq make makes array (One v) read =
        makes (Variable v) ((λ i. test (Variable (read.same i))) ∙ elements read.number read.inside)
    index_none first n t none u mode o under put faultless elements outer outers is_outer eq make makes array Here read =
        makes _ (chosen_none test tests is (λ i. side known p t false (λ f. equals false f i)) Variable first n
        (λ i below. none false (within_mode u mode) o under put faultless test tests is (number_none test tests is) (λ f. equals false f i) (λ f e. number_none test tests is f i e)) elements)
    index_none first n t none u mode o under put faultless elements outer outers is_outer eq make makes array Outside read =
        chosen_none outer outers is_outer (λ i. side known p t u (λ f. equals u f i)) (λ v. make (Variable v)) first n
        (λ i below. none u mode o under put faultless outer outers is_outer eq (λ f. equals u f i) (λ f e. eq f i e)) (λ i below. makes (Variable (first + i)) (elements i below))

    mutual
      pub none_in : (t : ResolvedTree) → IsNone t
      none_in (tree first at form) u mode o under put none outer outers is_outer eq make makes = none_in_form form u mode o at under put none outer outers is_outer eq make makes

      none_in_form : (form : Form) (u : Bool) → Mode u → (o : Around) (at : Mark) → Under o.next → form_put_in good form ≡ true → form_faults s o at form ≡ [] → (outer : Formula → Bool) (outers : Formulas → Bool) → IsSome outer outers
          → ((f : Formula) (i : ℕ) → test f ≡ false → outer (equals u f i) ≡ false) → (make : Formula → Formula) → ((f : Formula) → test f ≡ false → outer (make f) ≡ false)
          → outer (form_side known p form u make) ≡ false
      none_in_form (Form.LeafOf l) u mode o at under put none outer outers is_outer eq make makes = makes (leaf_formula p l) (has.leaf l o at under put none)
      none_in_form (Form.PredicateOf k ts) u mode o at under put none outer outers is_outer eq make makes = absurd (false≢true put)
      none_in_form (Form.MisuseOf m ts) u mode o at under put none outer outers is_outer eq make makes = absurd (false≢true put)
      none_in_form (Form.Next t) u mode o at under put none outer outers is_outer eq make makes =
          let parts = empty_parts (next_faults s.bans o at) (faults s (under_next at o) t) none in next_none t (none_in t) u mode o at under put parts.0 parts.1 outer outers is_outer eq make makes
      none_in_form (Form.Prefix word t) u mode o at under put none outer outers is_outer eq make makes =
          let past = is_past_prefix word in
          let inner = within past at o in
          let parts = empty_parts (operator_faults s past o.next at) (faults s inner t ++ wrong (is_truth (kind_of known t)) at.spot) none in
          let more = empty_parts (faults s inner t) (wrong (is_truth (kind_of known t)) at.spot) parts.1 in
          makes (prefix_formula word (formula_of known p t)) (prefix_none test tests is word (formula_of known p t) (formula_none t (none_in t) (within_mode u mode) inner (under_within past at o under) put more.0))
      none_in_form (Form.Binary word a b) u mode o at under put none outer outers is_outer eq make makes =
          let past = is_past word in
          let inner = within past at o in
          let own = binary_faults word (kind_of known a) (kind_of known b) at.spot in
          let parts = empty_parts (faults s inner a) (operator_faults s past o.next at ++ (faults s inner b ++ own)) none in
          let more = empty_parts (operator_faults s past o.next at) (faults s inner b ++ own) parts.1 in
          let last = empty_parts (faults s inner b) own more.1 in
          pair_in word a b (none_in a) (none_in b) inner (under_within past at o under) (and_parts (is_put_in good a) (is_put_in good b) put) parts.0 last.0 (is_row_word word) (is_comparing word) u mode outer outers is_outer eq make makes
      none_in_form (Form.Mod t number_at n) u mode o at under put none outer outers is_outer eq make makes =
          let parts = empty_parts (faults s o t) (remainder_faults (kind_of known t) at.spot number_at n) none in
          none_in t u mode o under put parts.0 outer outers is_outer eq (λ f. make (Remainder f n)) (λ f e. makes (Remainder f n) (is.remainder f n ∙ e))
      none_in_form (Form.And ts operators) u mode o at under put none outer outers is_outer eq make makes =
          makes (Conjunction (each_formula known p ts)) (is.conjunction (each_formula known p ts) ∙ none_in_each ts (within_mode u mode) o at.spot (at.spot ∷ operators) under put none)
      none_in_form (Form.Or ts operators) u mode o at under put none outer outers is_outer eq make makes =
          makes (Disjunction (each_formula known p ts)) (is.disjunction (each_formula known p ts) ∙ none_in_each ts (within_mode u mode) o at.spot (at.spot ∷ operators) under put none)
      none_in_form (Form.Index first n t) u mode o at under put none outer outers is_outer eq make makes =
          let puts = and_parts (good.array first n) (is_put_in good t) put in
          let parts = empty_parts (faults s o t) (index_faults s o at first n (kind_of known t) (first_of t)) none in
          let own = empty_parts (variable_faults s.bans o at (is_system known first)) (wrong (is_whole (kind_of known t)) (first_of t) ++ fault_if (is_outside n (kind_of known t)) 25 at.spot) parts.1 in
          let last = empty_parts (wrong (is_whole (kind_of known t)) (first_of t)) (fault_if (is_outside n (kind_of known t)) 25 at.spot) own.1 in
          index_none first n t (none_in t) u mode o under puts.1 parts.0 (λ i below. has.element first n i o at under puts.0 below own.0) outer outers is_outer eq make makes
          (get_or known.variables first Anything) (reading_of (get_or known.variables first Anything) first n (kind_of known t))
          (is_read (get_or known.variables first Anything) first n (kind_of known t) (has.some first n puts.0) (no_fault (is_outside n (kind_of known t)) 25 at.spot last.1))
      none_in_form (Form.Quantified word variable extent low high ts) u mode o at under put none outer outers is_outer eq make makes =
          let bounds_faults = (faults s (in_bound at o) low ++ wrong (is_whole (kind_of known low)) (first_of low)) ++ (faults s (in_bound at o) high ++ wrong (is_whole (kind_of known high)) (first_of high)) in
          let parts = empty_parts bounds_faults (fault_if (is_wrong extent) 14 at.spot ++ copy_faults s o ts) none in
          let own = empty_parts (fault_if (is_wrong extent) 14 at.spot) (copy_faults s o ts) parts.1 in
          let puts = and_parts (is_put_in good low) (is_put_in good high && each_put_in (seen_inside extent variable good) ts) put in
          let copies = (and_parts (is_put_in good high) (each_put_in (seen_inside extent variable good) ts) puts.1).1 in
          makes (quantified_formula word (each_formula known p ts)) (quantified_none test tests is word (each_formula known p ts)
          (none_in_copies ts (within_mode u mode) o under (each_more ts (seen_inside extent variable good) good (outside extent variable good bounds) copies) own.1))

      none_in_each : (ts : ResolvedTrees) → Mode false → (o : Around) (at : Spot) (operators : List Spot) → Under o.next → each_put_in good ts ≡ true → operand_faults s o at operators ts ≡ [] → tests (each_formula known p ts) ≡ false
      none_in_each ResolvedTrees.none mode o at operators under put none = is.none
      none_in_each (ResolvedTrees.one_more t ts) mode o at operators under put none =
          let own = wrong (is_truth (kind_of known t)) (get_or operators 0 at) in
          let parts = empty_parts (faults s o t) (own ++ operand_faults s o at (drop 1 operators) ts) none in
          let more = empty_parts own (operand_faults s o at (drop 1 operators) ts) parts.1 in
          let puts = and_parts (is_put_in good t) (each_put_in good ts) put in
          is.more (formula_of known p t) (each_formula known p ts)
          ∙ neither (test (formula_of known p t)) (tests (each_formula known p ts)) (formula_none t (none_in t) mode o under puts.0 parts.0) (none_in_each ts mode o at (drop 1 operators) under puts.1 more.1)

      none_in_copies : (ts : ResolvedTrees) → Mode false → (o : Around) → Under o.next → each_put_in good ts ≡ true → copy_faults s o ts ≡ [] → tests (each_formula known p ts) ≡ false
      none_in_copies ResolvedTrees.none mode o under put none = is.none
      none_in_copies (ResolvedTrees.one_more t ts) mode o under put none =
          let own = wrong (is_truth (kind_of known t)) (first_of t) in
          let parts = empty_parts (faults s o t) (own ++ copy_faults s o ts) none in
          let more = empty_parts own (copy_faults s o ts) parts.1 in
          let puts = and_parts (is_put_in good t) (each_put_in good ts) put in
          is.more (formula_of known p t) (each_formula known p ts)
          ∙ neither (test (formula_of known p t)) (tests (each_formula known p ts)) (formula_none t (none_in t) mode o under puts.0 parts.0) (none_in_copies ts mode o under puts.1 more.1)
