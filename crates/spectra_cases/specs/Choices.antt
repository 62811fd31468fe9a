-- The indexes whose cases stand around a part of a comparison, and the part with elements in their places.
use Rattle.std.specs.Prelude.{ℕ, ◌+◌, Bool, true, false, if◌then◌else◌, List, [], ◌∷◌, ◌++◌, length, drop, get_or}
use Rattle.spec_model.specs.Syntax.{Formula, Variable, NextOf, Conjunction, Disjunction, Remainder}
use Rattle.spectra_trees.specs.declared.tree.BinaryWord.{BinaryWord}
use Rattle.spectra_resolved.specs.Resolved.{ResolvedTree, tree, Form}
use Rattle.spectra_copies.specs.Levels.{is_row_word}
use Rattle.spectra_judge.specs.Kinds.{Anything}
use Rattle.spectra_judge.specs.Known.{Known}
use Rattle.spectra_judge.specs.Judged.{kind_of}
use Rattle.spectra_cases.specs.Formulas.{Reading, One, Here, Outside, reading_of, is_comparing, no_formula, leaf_formula, prefix_formula, binary_formula, quantified_formula, chosen, equals, side, each_formula, formula_of}

-- an index whose case stands around: under a `next` or not, its array, and the index itself
pub record ChoiceOf : Type 0 where
  pub under : Bool
  pub first : ℕ
  pub count : ℕ
  pub index : ResolvedTree

abbrev pub choice_of : Reading → (under : Bool) → (first count : ℕ) → ResolvedTree → List ChoiceOf
choice_of Outside under first n t = record { under = under; first = first; count = n; index = t } ∷ []
choice_of _ under first n t = []

-- those of a part of a comparison, in text order
abbrev mutual
  pub choices : Known → ResolvedTree → (under : Bool) → List ChoiceOf
  choices k (tree first at form) under = form_choices k form under

  pub form_choices : Known → Form → (under : Bool) → List ChoiceOf
  form_choices k (Form.LeafOf l) under = []
  form_choices k (Form.PredicateOf number ts) under = []
  form_choices k (Form.MisuseOf m ts) under = []
  form_choices k (Form.Next t) under = choices k t true
  form_choices k (Form.Prefix word t) under = []
  form_choices k (Form.Binary word a b) under = if is_row_word word then choices k a under ++ choices k b under else []
  form_choices k (Form.Mod t number_at n) under = choices k t under
  form_choices k (Form.And ts operators) under = []
  form_choices k (Form.Or ts operators) under = []
  form_choices k (Form.Index first n t) under = choice_of (reading_of (get_or k.variables first Anything) first n (kind_of k t)) under first n t
  form_choices k (Form.Quantified word variable extent low high ts) under = []

-- ---- what is made of them

-- that an expression is a number, with the cases of its indexes
abbrev pub equation_of : Known → (params : ℕ) → (under : Bool) → ResolvedTree → ℕ → Formula
equation_of k p under t i = side k p t under (λ f. equals under f i)

abbrev pub index_built : Known → (params : ℕ) → Reading → (first count : ℕ) → ResolvedTree → (picks : List ℕ) → Formula
index_built k p (One v) first n t picks = Variable v
index_built k p Here first n t picks = chosen (equation_of k p false t) Variable first n
index_built k p Outside first n t picks = Variable (get_or picks 0 first)

-- the formula of an operator that makes a truth value of two operands
abbrev pub operated : Known → (params : ℕ) → BinaryWord → ResolvedTree → ResolvedTree → Formula
operated k p word a b =
    if is_comparing word then side k p a false (λ f. side k p b false (λ g. binary_formula word f g)) else binary_formula word (formula_of k p a) (formula_of k p b)

-- a part in which these elements are picked, one after another
abbrev mutual
  pub built : Known → (params : ℕ) → ResolvedTree → (picks : List ℕ) → Formula
  built k p (tree first at form) picks = form_built k p form picks

  pub form_built : Known → (params : ℕ) → Form → (picks : List ℕ) → Formula
  form_built k p (Form.LeafOf l) picks = leaf_formula p l
  form_built k p (Form.PredicateOf number ts) picks = no_formula
  form_built k p (Form.MisuseOf m ts) picks = no_formula
  form_built k p (Form.Next t) picks = NextOf (built k p t picks)
  form_built k p (Form.Prefix word t) picks = prefix_formula word (formula_of k p t)
  form_built k p (Form.Binary word a b) picks =
      if is_row_word word then binary_formula word (built k p a picks) (built k p b (drop (length (choices k a false)) picks)) else operated k p word a b
  form_built k p (Form.Mod t number_at n) picks = Remainder (built k p t picks) n
  form_built k p (Form.And ts operators) picks = Conjunction (each_formula k p ts)
  form_built k p (Form.Or ts operators) picks = Disjunction (each_formula k p ts)
  form_built k p (Form.Index first n t) picks = index_built k p (reading_of (get_or k.variables first Anything) first n (kind_of k t)) first n t picks
  form_built k p (Form.Quantified word variable extent low high ts) picks = quantified_formula word (each_formula k p ts)

-- What is made of elements that are picked for several indexes, with the cases of each around it, those of the first outermost.
abbrev pub spread : Known → (params : ℕ) → List ChoiceOf → (List ℕ → Formula) → Formula
spread k p [] make = make []
spread k p (c ∷ cs) make = chosen (equation_of k p c.under c.index) (λ v. spread k p cs (λ vs. make (v ∷ vs))) c.first c.count
