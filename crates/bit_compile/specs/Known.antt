-- Which formulas and tables can be compiled.
use Rattle.std.specs.Prelude.{◌<◌, [], ◌∷◌, length}
use Rattle.spec_model.specs.declared.game.Hidden.{Hidden}
use Rattle.spec_model.specs.declared.value.Value.TheVariants as value
use Rattle.spec_model.specs.Values.{values_of}
use Rattle.spec_model.specs.Syntax.{Formula, Constant, Variable, NextOf, Negation, Conjunction, Disjunction, Implication, Equivalence, Comparison, Sum, Difference, Product, Remainder, PastOf, Entry, Formulas}
use Rattle.spec_model.specs.Games.{GameData}
use Rattle.game_values.specs.Safety.{formulas_in}
use Rattle.game_values.specs.Whole.{IsWhole}
use Rattle.game_values.specs.declared.seen.At.{At}
use Rattle.bit_compile.specs.declared.operation.Operation.{Operation}
use Rattle.bit_compile.specs.declared.operation.Operation.TheVariants.{Add, Sub, Mul, Mod}
use Rattle.bit_compile.specs.Laid.{IsCountable}
use Rattle.bit_compile.specs.Compiled.{Case, Entries, span_of, values_in, cases_in, results}
use Rattle.std.specs.Prelude.{List}

-- Its variables are there, and its numbers lie in intervals that can be counted.
module _ (g : GameData) where
  abbrev mutual
    pub IsKnown : Formula → Type 0
    IsKnown (Constant v) = Unit {0}
    IsKnown (Variable k) = k < length g.variables
    IsKnown (NextOf e) = IsKnown e
    IsKnown (Negation e) = IsKnown e
    IsKnown (Conjunction es) = AreKnown es
    IsKnown (Disjunction es) = AreKnown es
    IsKnown (Implication a b) = IsKnown a × IsKnown b
    IsKnown (Equivalence a b) = IsKnown a × IsKnown b
    IsKnown (Comparison c a b) = IsKnown a × IsKnown b
    IsKnown (Sum a b) = IsKnown a × IsKnown b × IsCountable (span_of Add (values_in g a) (values_in g b))
    IsKnown (Difference a b) = IsKnown a × IsKnown b × IsCountable (span_of Sub (values_in g a) (values_in g b))
    IsKnown (Product a b) = IsKnown a × IsKnown b × IsCountable (span_of Mul (values_in g a) (values_in g b))
    IsKnown (Remainder a n) = IsKnown a × IsCountable (span_of Mod (values_in g a) (value.Int n ∷ []))
    IsKnown (PastOf op es) = Unit {0}
    IsKnown (Entry h n) = Unit {0}

    pub AreKnown : Formulas → Type 0
    AreKnown Formulas.none = Unit {0}
    AreKnown (Formulas.one_more e es) = IsKnown e × AreKnown es

-- the cases of an operation on two formulas
abbrev pub operated_cases : (g : GameData) (entries : Entries) → At → Operation → Formula → Formula → List Case
operated_cases g entries at op a b = results op (cases_in g entries at a) (cases_in g entries at b) (values_of (span_of op (values_in g a) (values_in g b)))

-- nothing of the table is left out, and its atoms can be compiled
abbrev pub IsReadable : GameData → Hidden → Type 0
IsReadable g h = IsWhole h × AreKnown g (formulas_in h.atoms.items)
