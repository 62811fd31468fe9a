-- How large a formula is.
use Rattle.std.specs.Prelude.{ℕ, ◌+◌, max}
use Rattle.spec_model.specs.Syntax.{Formula, Constant, Variable, NextOf, Negation, Conjunction, Disjunction, Implication, Equivalence, Comparison, Sum, Difference, Product, Remainder, PastOf, Entry, Formulas}

abbrev mutual
  -- its nodes; a conjunction or disjunction is one, beside those of its operands
  pub nodes_in : Formula → ℕ
  nodes_in (Constant v) = 1
  nodes_in (Variable k) = 1
  nodes_in (NextOf e) = 1 + nodes_in e
  nodes_in (Negation e) = 1 + nodes_in e
  nodes_in (Conjunction es) = 1 + nodes_in_each es
  nodes_in (Disjunction es) = 1 + nodes_in_each es
  nodes_in (Implication a b) = 1 + (nodes_in a + nodes_in b)
  nodes_in (Equivalence a b) = 1 + (nodes_in a + nodes_in b)
  nodes_in (Comparison c a b) = 1 + (nodes_in a + nodes_in b)
  nodes_in (Sum a b) = 1 + (nodes_in a + nodes_in b)
  nodes_in (Difference a b) = 1 + (nodes_in a + nodes_in b)
  nodes_in (Product a b) = 1 + (nodes_in a + nodes_in b)
  nodes_in (Remainder a n) = 1 + nodes_in a
  nodes_in (PastOf op es) = 1 + nodes_in_each es
  nodes_in (Entry h n) = 1

  pub nodes_in_each : Formulas → ℕ
  nodes_in_each Formulas.none = 0
  nodes_in_each (Formulas.one_more e es) = nodes_in e + nodes_in_each es

abbrev mutual
  -- its levels; a leaf has one
  pub levels_in : Formula → ℕ
  levels_in (Constant v) = 1
  levels_in (Variable k) = 1
  levels_in (NextOf e) = 1 + levels_in e
  levels_in (Negation e) = 1 + levels_in e
  levels_in (Conjunction es) = 1 + levels_in_each es
  levels_in (Disjunction es) = 1 + levels_in_each es
  levels_in (Implication a b) = 1 + max (levels_in a) (levels_in b)
  levels_in (Equivalence a b) = 1 + max (levels_in a) (levels_in b)
  levels_in (Comparison c a b) = 1 + max (levels_in a) (levels_in b)
  levels_in (Sum a b) = 1 + max (levels_in a) (levels_in b)
  levels_in (Difference a b) = 1 + max (levels_in a) (levels_in b)
  levels_in (Product a b) = 1 + max (levels_in a) (levels_in b)
  levels_in (Remainder a n) = 1 + levels_in a
  levels_in (PastOf op es) = 1 + levels_in_each es
  levels_in (Entry h n) = 1

  pub levels_in_each : Formulas → ℕ
  levels_in_each Formulas.none = 0
  levels_in_each (Formulas.one_more e es) = max (levels_in e) (levels_in_each es)
