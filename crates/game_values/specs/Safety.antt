-- Where formulas can be computed.
use Rattle.std.specs.Prelude.{ℕ, zero, suc, pos, ◌+ℤ◌, ◌-ℤ◌, ◌*ℤ◌, ◌<ℤ◌, List, map, FitsSigned}
use Rattle.std.specs.Int.{w64}
use Rattle.spec_model.specs.declared.expr.Expr.{Expr}
use Rattle.spec_model.specs.Values.{number_of}
use Rattle.spec_model.specs.Syntax.{Formula, Constant, Variable, NextOf, Negation, Conjunction, Disjunction, Implication, Equivalence, Comparison, Sum, Difference, Product, Remainder, PastOf, Entry, Formulas, formulas}
use Rattle.spec_model.specs.Views.{formula}
use Rattle.spec_model.specs.Meaning.{Reading, value_at}

-- The formula reads no further than the next moment and no past operator, and each number in it fits 64 bits.
module _ (r : Reading) where
  abbrev mutual
    pub IsSafe : Formula → ℕ → Type 0
    IsSafe (Constant v) t = Unit {0}
    IsSafe (Variable k) t = Unit {0}
    IsSafe (NextOf e) zero = IsSafe e 1
    IsSafe (NextOf e) (suc t) = ⊥
    IsSafe (Negation e) t = IsSafe e t
    IsSafe (Conjunction es) t = AreSafe es t
    IsSafe (Disjunction es) t = AreSafe es t
    IsSafe (Implication a b) t = IsSafe a t × IsSafe b t
    IsSafe (Equivalence a b) t = IsSafe a t × IsSafe b t
    IsSafe (Comparison c a b) t = IsSafe a t × IsSafe b t
    IsSafe (Sum a b) t = IsSafe a t × IsSafe b t × FitsSigned w64 (number_of (value_at r a t) +ℤ number_of (value_at r b t))
    IsSafe (Difference a b) t = IsSafe a t × IsSafe b t × FitsSigned w64 (number_of (value_at r a t) -ℤ number_of (value_at r b t))
    IsSafe (Product a b) t = IsSafe a t × IsSafe b t × FitsSigned w64 (number_of (value_at r a t) *ℤ number_of (value_at r b t))
    IsSafe (Remainder a n) t = IsSafe a t × (pos 0 <ℤ n)
    IsSafe (PastOf op es) t = ⊥
    IsSafe (Entry h n) t = Unit {0}

    pub AreSafe : Formulas → ℕ → Type 0
    AreSafe Formulas.none t = Unit {0}
    AreSafe (Formulas.one_more e es) t = IsSafe e t × AreSafe es t

-- the formulas of several expressions
abbrev pub formulas_in : List Expr → Formulas
formulas_in es = formulas (map formula es)
