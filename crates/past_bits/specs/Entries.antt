-- Formulas whose past operators are entries of hidden tables.
use Rattle.std.specs.Prelude.{ℕ, if◌then◌else◌, List, [], ◌∷◌, ◌++◌, fold}
use Rattle.std.specs.List.{list_any, position_or_len}
use Rattle.spec_model.specs.Syntax.{Formula, Constant, Variable, NextOf, Negation, Conjunction, Disjunction, Implication, Equivalence, Comparison, Sum, Difference, Product, Remainder, PastOf, Entry, Formulas}
use Rattle.spec_model.specs.Sizes.{same_formula}

-- the place of a tree among several; one that isn't there has the place past them
abbrev pub place_of : List Formula → Formula → ℕ
place_of ops e = position_or_len (same_formula e) ops

-- The formula with an entry for each past operator: of the table with the operator's place, its one truth table.
module _ (ops : List Formula) where
  abbrev mutual
    pub with_entries : Formula → Formula
    with_entries (Constant v) = Constant v
    with_entries (Variable k) = Variable k
    with_entries (NextOf e) = NextOf (with_entries e)
    with_entries (Negation e) = Negation (with_entries e)
    with_entries (Conjunction es) = Conjunction (each_with_entries es)
    with_entries (Disjunction es) = Disjunction (each_with_entries es)
    with_entries (Implication a b) = Implication (with_entries a) (with_entries b)
    with_entries (Equivalence a b) = Equivalence (with_entries a) (with_entries b)
    with_entries (Comparison c a b) = Comparison c (with_entries a) (with_entries b)
    with_entries (Sum a b) = Sum (with_entries a) (with_entries b)
    with_entries (Difference a b) = Difference (with_entries a) (with_entries b)
    with_entries (Product a b) = Product (with_entries a) (with_entries b)
    with_entries (Remainder a n) = Remainder (with_entries a) n
    with_entries (PastOf op es) = Entry (place_of ops (PastOf op es)) 0
    with_entries (Entry h n) = Entry h n

    pub each_with_entries : Formulas → Formulas
    each_with_entries Formulas.none = Formulas.none
    each_with_entries (Formulas.one_more e es) = Formulas.one_more (with_entries e) (each_with_entries es)

-- a tree more, unless it is there
abbrev pub with_operator : List Formula → Formula → List Formula
with_operator ops e = if list_any (same_formula e) ops then ops else ops ++ e ∷ []

abbrev pub added : List Formula → List Formula → List Formula
added ops es = fold with_operator ops es
