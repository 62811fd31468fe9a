-- The formula of an expression in which everything is put in: the expression without its places, with the cases of indexes.
use Rattle.std.specs.Prelude.{ℕ, zero, suc, ◌+◌, min, ℤ, pos, int_lt, int_le, nat_abs, Bool, true, false, ◌&&◌, if◌then◌else◌, List, [], ◌∷◌, get_or}
use Rattle.spec_model.specs.declared.value.Value.TheVariants as value
use Rattle.spec_model.specs.declared.expr.Compare.TheVariants as compares
use Rattle.spec_model.specs.declared.expr.Past.TheVariants as pasts
use Rattle.spec_model.specs.Syntax.{Formula, Constant, Variable, NextOf, Negation, Conjunction, Disjunction, Implication, Equivalence, Comparison, Sum, Difference, Product, Remainder, PastOf, Formulas, formulas}
use Rattle.spectra_trees.specs.declared.tree.PrefixWord.{PrefixWord}
use Rattle.spectra_trees.specs.declared.tree.PrefixWord.TheVariants as prefixes
use Rattle.spectra_trees.specs.declared.tree.BinaryWord.{BinaryWord}
use Rattle.spectra_trees.specs.declared.tree.BinaryWord.TheVariants as binary
use Rattle.spectra_resolved.specs.declared.tree.Leaf.{Leaf}
use Rattle.spectra_resolved.specs.declared.tree.Leaf.TheVariants as leaf
use Rattle.spectra_resolved.specs.Resolved.{ResolvedTree, tree, Form, ResolvedTrees}
use Rattle.spectra_resolved.specs.declared.tree.QuantifierWord.{QuantifierWord}
use Rattle.spectra_resolved.specs.declared.tree.QuantifierWord.TheVariants as quantifiers
use Rattle.spectra_copies.specs.Levels.{is_row_word}
use Rattle.spectra_judge.specs.Kinds.{Kind, Truth, Whole, Anything}
use Rattle.spectra_judge.specs.Known.{Known}
use Rattle.spectra_judge.specs.Judged.{kind_of}

-- ---- the formula

-- what has no formula
abbrev pub no_formula : Formula
no_formula = Constant (value.Bool true)

-- The parameters of a pattern are its first variables, and its own ones follow. The number of an enum name past 16 bits, which no
-- text without faults has, is cut to these.
abbrev pub leaf_formula : (params : ℕ) → Leaf → Formula
leaf_formula params (leaf.Truth b) = Constant (value.Bool b)
leaf_formula params (leaf.Number z) = Constant (value.Int z)
leaf_formula params (leaf.EnumName n) = Constant (value.Name (min n 65_535))
leaf_formula params (leaf.Variable k) = Variable k
leaf_formula params (leaf.Parameter k) = Variable k
leaf_formula params (leaf.Own k) = Variable (params + k)
leaf_formula params _ = no_formula

abbrev pub prefix_formula : PrefixWord → Formula → Formula
prefix_formula prefixes.Not f = Negation f
prefix_formula prefixes.Prev f = PastOf pasts.Prev (formulas (f ∷ []))
prefix_formula prefixes.Once f = PastOf pasts.Once (formulas (f ∷ []))
prefix_formula prefixes.Historically f = PastOf pasts.Historically (formulas (f ∷ []))

abbrev pub binary_formula : BinaryWord → Formula → Formula → Formula
binary_formula binary.Implies f g = Implication f g
binary_formula binary.Iff f g = Equivalence f g
binary_formula binary.Since f g = PastOf pasts.Since (formulas (f ∷ g ∷ []))
binary_formula binary.Triggered f g = PastOf pasts.Triggered (formulas (f ∷ g ∷ []))
binary_formula binary.Eq f g = Comparison compares.Eq f g
binary_formula binary.Ne f g = Comparison compares.Ne f g
binary_formula binary.Lt f g = Comparison compares.Lt f g
binary_formula binary.Le f g = Comparison compares.Le f g
binary_formula binary.Gt f g = Comparison compares.Gt f g
binary_formula binary.Ge f g = Comparison compares.Ge f g
binary_formula binary.Add f g = Sum f g
binary_formula binary.Sub f g = Difference f g
binary_formula binary.Mul f g = Product f g

-- ---- cases of indexes

-- whether an operator compares
abbrev pub is_comparing : BinaryWord → Bool
is_comparing binary.Eq = true
is_comparing binary.Ne = true
is_comparing binary.Lt = true
is_comparing binary.Le = true
is_comparing binary.Gt = true
is_comparing binary.Ge = true
is_comparing _ = false

-- How an array is read at an index: at the one element that its span has; or in each case, of a truth value where it stands, or
-- of another in the comparison around it.
pub data Reading : Type 0 where
  One : (variable : ℕ) → Reading
  Here : Reading
  Outside : Reading

-- The variable of a numbered element. A number that none has, which is a fault, counts as the least or the greatest that one may
-- have.
abbrev pub element : (first : ℕ) → ℤ → ℕ
element first z = if int_lt z (pos 0) then first else first + min (nat_abs z) 255

-- where several may be meant
abbrev pub by_array : (array : Kind) → Reading
by_array Truth = Here
by_array _ = Outside

abbrev pub by_index : (array : Kind) → (first : ℕ) → (index : Kind) → Reading
by_index array first (Whole low high) = if int_le low high && int_le high low then One (element first low) else by_array array
by_index array first _ = by_array array

-- of an array whose length is faulty the first one is read
abbrev pub reading_of : (array : Kind) → (first count : ℕ) → (index : Kind) → Reading
reading_of array first zero index = One first
reading_of array first (suc n) index = by_index array first index

-- each case: the index is this number, and so is the element
abbrev pub cases_of : (is_number : ℕ → Formula) → (with_element : ℕ → Formula) → (first : ℕ) → (numbers : List ℕ) → List Formula
cases_of is_number with_element first [] = []
cases_of is_number with_element first (i ∷ is) =
    Conjunction (formulas (is_number i ∷ with_element (first + i) ∷ [])) ∷ cases_of is_number with_element first is

abbrev pub numbers_below : (from count : ℕ) → List ℕ
numbers_below from zero = []
numbers_below from (suc n) = from ∷ numbers_below (suc from) n

abbrev pub chosen : (is_number : ℕ → Formula) → (with_element : ℕ → Formula) → (first count : ℕ) → Formula
chosen is_number with_element first n = Disjunction (formulas (cases_of is_number with_element first (numbers_below 0 n)))

-- a number that is read at the next position where a `next` stands between
abbrev pub equals : (under : Bool) → Formula → ℕ → Formula
equals under f i = Comparison compares.Eq (if under then NextOf f else f) (Constant (value.Int (pos i)))

-- What is made of an element, by how its array is read. Each number of the index has an equation: one for cases that stand where
-- the element does, and one for those around.
abbrev pub index_side : Reading → (first count : ℕ) → (here outside : ℕ → Formula) → (Formula → Formula) → Formula
index_side (One v) first n here outside make = make (Variable v)
index_side Here first n here outside make = make (chosen here Variable first n)
index_side Outside first n here outside make = chosen outside (λ v. make (Variable v)) first n

abbrev pub quantified_formula : QuantifierWord → Formulas → Formula
quantified_formula quantifiers.ForAll fs = Conjunction fs
quantified_formula quantifiers.Exists fs = Disjunction fs

abbrev mutual
  -- What is made of the formula of a part of a comparison, whose indexes are chosen one after the other, the first in the text
  -- outermost. `under` says that a `next` stands between the comparison and the part.
  pub side : Known → (params : ℕ) → ResolvedTree → (under : Bool) → (Formula → Formula) → Formula
  side k p (tree first at form) under make = form_side k p form under make

  pub form_side : Known → (params : ℕ) → Form → (under : Bool) → (Formula → Formula) → Formula
  form_side k p (Form.LeafOf l) under make = make (leaf_formula p l)
  form_side k p (Form.PredicateOf number ts) under make = make no_formula
  form_side k p (Form.MisuseOf m ts) under make = make no_formula
  form_side k p (Form.Next t) under make = side k p t true (λ f. make (NextOf f))
  form_side k p (Form.Prefix word t) under make = make (prefix_formula word (side k p t false (λ f. f)))
  form_side k p (Form.Binary word a b) under make =
      if is_row_word word then side k p a under (λ f. side k p b under (λ g. make (binary_formula word f g)))
      else (if is_comparing word then make (side k p a false (λ f. side k p b false (λ g. binary_formula word f g)))
      else make (binary_formula word (side k p a false (λ f. f)) (side k p b false (λ g. g))))
  form_side k p (Form.Mod t number_at n) under make = side k p t under (λ f. make (Remainder f n))
  form_side k p (Form.And ts operators) under make = make (Conjunction (each_formula k p ts))
  form_side k p (Form.Or ts operators) under make = make (Disjunction (each_formula k p ts))
  form_side k p (Form.Index first n t) under make =
      index_side (reading_of (get_or k.variables first Anything) first n (kind_of k t)) first n
      (λ i. side k p t false (λ f. equals false f i)) (λ i. side k p t under (λ f. equals under f i)) make
  form_side k p (Form.Quantified word variable extent low high ts) under make = make (quantified_formula word (each_formula k p ts))

  pub each_formula : Known → (params : ℕ) → ResolvedTrees → Formulas
  each_formula k p ResolvedTrees.none = Formulas.none
  each_formula k p (ResolvedTrees.one_more t ts) = Formulas.one_more (side k p t false (λ f. f)) (each_formula k p ts)

-- the formula of an expression, behind so many parameters
abbrev pub formula_of : Known → (params : ℕ) → ResolvedTree → Formula
formula_of k p t = side k p t false (λ f. f)
