-- What stands for an operator above its operands.
use Rattle.std.proofs.Common.{◌≡◌, true, List, Option, Some, None, refl, sym, ap, ◌∙◌}
use Rattle.std.proofs.lemmas.Bool.{false≢true}
use Rattle.spectra_resolved.specs.declared.spot.Spot.{Spot}
use Rattle.spectra_resolved.specs.declared.spot.Mark.{Mark}
use Rattle.spectra_resolved.specs.Resolved.{ResolvedTree, tree, Form, ResolvedTrees}
use Rattle.spectra_copies.specs.Places.{placed}
use Rattle.spectra_copies.specs.Operands.{one_of, over_one, has_several, several_of, over_each}
use Rattle.spectra_copies.proofs.Over.{not_one, value_is}
use Rattle.spectra_copies.proofs.Made.{OneByOne}
use Rattle.spectra_elaboration.specs.Putting.{Put, filled, form_filled, each_filled}
use Rattle.spectra_elaboration.specs.Following.{is_operator, quantified_of}

not_one' : {P : Type 0} (t : ResolvedTree) → None ≡ Some t → P
not_one' t e = not_one t (sym e)

-- an operator with no single operand that is no quantifier has several
pub are_several : (form : Form) → is_operator form ≡ true → None ≡ one_of form → None ≡ quantified_of form → has_several form ≡ true
are_several (Form.LeafOf l) is e q = absurd (false≢true is)
are_several (Form.PredicateOf k ts) is e q = absurd (false≢true is)
are_several (Form.MisuseOf m ts) is e q = absurd (false≢true is)
are_several (Form.Next x) is e q = not_one' x e
are_several (Form.Prefix word x) is e q = not_one' x e
are_several (Form.Binary word x y) is e q = absurd (false≢true is)
are_several (Form.Mod x number_at n) is e q = not_one' x e
are_several (Form.And ts operators) is e q = refl
are_several (Form.Or ts operators) is e q = refl
are_several (Form.Index array n x) is e q = not_one' x e
are_several (Form.Quantified word variable extent low high ts) is e q = absurd (distinct q)
  where
    distinct : None ≡ Some (Form.Quantified word variable extent low high ts) → ⊥
    distinct e = cc

abbrev form_value : Form → Option Form → Form
form_value f (Some x) = x
form_value f None = f

quantified_value : (form : Form) → form_value form (quantified_of form) ≡ form
quantified_value (Form.LeafOf l) = refl
quantified_value (Form.PredicateOf k ts) = refl
quantified_value (Form.MisuseOf m ts) = refl
quantified_value (Form.Next x) = refl
quantified_value (Form.Prefix word x) = refl
quantified_value (Form.Binary word x y) = refl
quantified_value (Form.Mod x number_at n) = refl
quantified_value (Form.And ts operators) = refl
quantified_value (Form.Or ts operators) = refl
quantified_value (Form.Index array n x) = refl
quantified_value (Form.Quantified word variable extent low high ts) = refl

-- the quantifier that an operator is, is that operator
pub quantified_is : (q form : Form) → Some q ≡ quantified_of form → q ≡ form
quantified_is q form is = ap (form_value form) is ∙ quantified_value form

module _ (put : Put) (brought : Option Spot) (arguments : List ResolvedTree) where
  -- expressions are filled in one by one
  pub each_one : OneByOne (filled put brought arguments) (each_filled put brought arguments)
  each_one = record { none = refl; more = λ t ts. refl }

  module _ (first : Spot) (at : Mark) where
    abbrev Fill : ResolvedTree → ResolvedTree
    Fill t = filled put brought arguments t

    abbrev Whole : Form → ResolvedTree
    Whole f = form_filled put brought arguments first at f

    pub one_filled : (form : Form) (t : ResolvedTree) → Some t ≡ one_of form → Whole form ≡ tree first at (over_one brought form (Fill t))
    one_filled (Form.LeafOf l) t e = not_one t e
    one_filled (Form.PredicateOf k ts) t e = not_one t e
    one_filled (Form.MisuseOf m ts) t e = not_one t e
    one_filled (Form.Next x) t e = ap (λ y. tree first at (Form.Next (Fill y))) (value_is t x e)
    one_filled (Form.Prefix word x) t e = ap (λ y. tree first at (Form.Prefix word (Fill y))) (value_is t x e)
    one_filled (Form.Binary word x y) t e = not_one t e
    one_filled (Form.Mod x number_at n) t e = ap (λ y. tree first at (Form.Mod (Fill y) (placed brought number_at) n)) (value_is t x e)
    one_filled (Form.And ts operators) t e = not_one t e
    one_filled (Form.Or ts operators) t e = not_one t e
    one_filled (Form.Index array n x) t e = ap (λ y. tree first at (Form.Index array n (Fill y))) (value_is t x e)
    one_filled (Form.Quantified word variable extent low high ts) t e = not_one t e

    pub several_filled : (form : Form) → has_several form ≡ true → Whole form ≡ tree first at (over_each brought form (each_filled put brought arguments (several_of form)))
    several_filled (Form.LeafOf l) is = absurd (false≢true is)
    several_filled (Form.PredicateOf k ts) is = absurd (false≢true is)
    several_filled (Form.MisuseOf m ts) is = absurd (false≢true is)
    several_filled (Form.Next x) is = absurd (false≢true is)
    several_filled (Form.Prefix word x) is = absurd (false≢true is)
    several_filled (Form.Binary word x y) is = absurd (false≢true is)
    several_filled (Form.Mod x number_at n) is = absurd (false≢true is)
    several_filled (Form.And ts operators) is = refl
    several_filled (Form.Or ts operators) is = refl
    several_filled (Form.Index array n x) is = absurd (false≢true is)
    several_filled (Form.Quantified word variable extent low high ts) is = absurd (false≢true is)
