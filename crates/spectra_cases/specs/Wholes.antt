-- What is made with the cases of its indexes around it.
use Rattle.std.specs.Prelude.{ℕ, zero, suc, ◌+◌, ◌≡◌, ◌<◌, Bool, false, List, [], ◌∷◌, ◌++◌, length, drop, map}
use Rattle.spec_model.specs.Syntax.{Formula, Conjunction, formulas}
use Rattle.spectra_resolved.specs.Resolved.{ResolvedTree, tree, Form}
use Rattle.spectra_resolved.specs.Chained.{chained}
use Rattle.spectra_resolved.specs.Views.{resolved_data, link_data, form_data}
use Rattle.spectra_judge.specs.Known.{Known}
use Rattle.spectra_cases.specs.declared.choosing.Choice.{Choice}
use Rattle.spectra_cases.specs.declared.choosing.Whole.{Whole}
use Rattle.spectra_cases.specs.declared.choosing.Whole.TheVariants as wholes
use Rattle.spectra_cases.specs.declared.choosing.Top.{Top}
use Rattle.spectra_cases.specs.declared.choosing.Top.TheVariants as tops
use Rattle.spectra_cases.specs.Formulas.{no_formula, binary_formula, equals, side, formula_of}
use Rattle.spectra_cases.specs.Choices.{ChoiceOf, choices, built, equation_of, spread}

abbrev pub choice_data : Choice → ChoiceOf
choice_data c = record { under = c.under; first = c.first; count = c.count; index = resolved_data c.index.now }

-- those of an expression with operators behind it, so many of which stand before the row at their end, that are its first operand's
abbrev pub front_choices : Known → (before : ℕ) → ResolvedTree → (under : Bool) → List ChoiceOf
front_choices k zero t under = choices k t under
front_choices k (suc n) t under = []

abbrev pub whole_formula : Known → (params : ℕ) → Whole → Formula
whole_formula k p (wholes.Row head links) = formula_of k p (chained (resolved_data head.now) (map link_data links.now))
whole_formula k p (wholes.Comparison word head links second) =
    side k p (chained (resolved_data head.now) (map link_data links.now)) false (λ f. side k p (resolved_data second.now) false (λ g. binary_formula word f g))
whole_formula k p (wholes.Equation under t i) = equation_of k p under (resolved_data t.now) i

abbrev pub whole_choices : Known → Whole → List ChoiceOf
whole_choices k (wholes.Row head links) = choices k (chained (resolved_data head.now) (map link_data links.now)) false
whole_choices k (wholes.Comparison word head links second) =
    choices k (chained (resolved_data head.now) (map link_data links.now)) false ++ choices k (resolved_data second.now) false
whole_choices k (wholes.Equation under t i) = choices k (resolved_data t.now) under

abbrev pub pair_built : Known → (params : ℕ) → ResolvedTree → ResolvedTree → (Formula → Formula → Formula) → (picks : List ℕ) → Formula
pair_built k p a b join picks = join (built k p a picks) (built k p b (drop (length (choices k a false)) picks))

abbrev pub whole_built : Known → (params : ℕ) → Whole → (picks : List ℕ) → Formula
whole_built k p (wholes.Row head links) picks = built k p (chained (resolved_data head.now) (map link_data links.now)) picks
whole_built k p (wholes.Comparison word head links second) picks =
    pair_built k p (chained (resolved_data head.now) (map link_data links.now)) (resolved_data second.now) (binary_formula word) picks
whole_built k p (wholes.Equation under t i) picks = equals under (built k p (resolved_data t.now) picks) i

-- what is made where these elements are picked for the first indexes, with the cases of the others around it
abbrev pub whole_cases : Known → (params : ℕ) → Whole → (picks : List ℕ) → Formula
whole_cases k p whole picks = spread k p (drop (length picks) (whole_choices k whole)) (λ vs. whole_built k p whole (picks ++ vs))

-- the case of the first of these indexes in which it is a number, where elements are picked for those before
abbrev pub case_with : Known → (params : ℕ) → Whole → (picks : List ℕ) → (number : ℕ) → List ChoiceOf → Formula
case_with k p whole picks i [] = no_formula
case_with k p whole picks i (c ∷ cs) = Conjunction (formulas (equation_of k p c.under c.index i ∷ whole_cases k p whole (picks ++ (c.first + i) ∷ []) ∷ []))

-- that of the first index for which none is picked
abbrev pub whole_case : Known → (params : ℕ) → Whole → (picks : List ℕ) → (number : ℕ) → Formula
whole_case k p whole picks i = case_with k p whole picks i (drop (length picks) (whole_choices k whole))

-- ---- what an expression is outermost

abbrev pub form_of : ResolvedTree → Form
form_of (tree first at form) = form

-- operators, one at least, behind a first operand; or what stands at a place
abbrev pub IsTop : ResolvedTree → Top → Type 0
IsTop t (tops.Row head links) = (t ≡ chained (resolved_data head.now) (map link_data links.now)) × (0 < length links.now)
IsTop t (tops.Place shape) = form_of t ≡ form_data shape.now
