-- Operators above their operands, with their nodes and their levels.
use Rattle.std.proofs.Common.{◌≡◌, ◌+◌, true, Option, Some, None, refl, sym, ap}
use Rattle.std.proofs.lemmas.Bool.{false≢true}
use Rattle.spectra_resolved.specs.declared.spot.Spot.{Spot}
use Rattle.spectra_resolved.specs.Resolved.{ResolvedTree, Form, ResolvedTrees}
use Rattle.spectra_copies.specs.Nodes.{tree_nodes, form_nodes, each_nodes}
use Rattle.spectra_copies.specs.Levels.{tree_levels, form_levels, each_levels}
use Rattle.spectra_copies.specs.Operands.{has_one, one_of, over_one, has_several, over_each}

pub not_one : {P : Type 0} (t : ResolvedTree) → Some t ≡ None → P
not_one t e = absurd (distinct e)
  where
    distinct : Some t ≡ None → ⊥
    distinct e = cc

abbrev value : ResolvedTree → Option ResolvedTree → ResolvedTree
value t (Some x) = x
value t None = t

-- the one operand is the one that it is
pub value_is : (t x : ResolvedTree) → Some t ≡ Some x → x ≡ t
value_is t x e = sym (ap (value t) e)

pub is_one : (form : Form) (t : ResolvedTree) → Some t ≡ one_of form → has_one form ≡ true
is_one (Form.LeafOf l) t e = not_one t e
is_one (Form.PredicateOf k ts) t e = not_one t e
is_one (Form.MisuseOf m ts) t e = not_one t e
is_one (Form.Next x) t e = refl
is_one (Form.Prefix word x) t e = refl
is_one (Form.Binary word x y) t e = not_one t e
is_one (Form.Mod x number_at n) t e = refl
is_one (Form.And ts operators) t e = not_one t e
is_one (Form.Or ts operators) t e = not_one t e
is_one (Form.Index array n x) t e = refl
is_one (Form.Quantified word variable extent low high ts) t e = not_one t e

module _ (brought : Option Spot) where
  pub one_nodes : (form : Form) (t : ResolvedTree) → has_one form ≡ true → form_nodes (over_one brought form t) ≡ 1 + tree_nodes t
  one_nodes (Form.LeafOf l) t is = absurd (false≢true is)
  one_nodes (Form.PredicateOf k ts) t is = absurd (false≢true is)
  one_nodes (Form.MisuseOf m ts) t is = absurd (false≢true is)
  one_nodes (Form.Next x) t is = refl
  one_nodes (Form.Prefix word x) t is = refl
  one_nodes (Form.Binary word x y) t is = absurd (false≢true is)
  one_nodes (Form.Mod x number_at n) t is = refl
  one_nodes (Form.And ts operators) t is = absurd (false≢true is)
  one_nodes (Form.Or ts operators) t is = absurd (false≢true is)
  one_nodes (Form.Index array n x) t is = refl
  one_nodes (Form.Quantified word variable extent low high ts) t is = absurd (false≢true is)

  pub one_levels : (form : Form) (t : ResolvedTree) → has_one form ≡ true → form_levels (over_one brought form t) ≡ 1 + tree_levels t
  one_levels (Form.LeafOf l) t is = absurd (false≢true is)
  one_levels (Form.PredicateOf k ts) t is = absurd (false≢true is)
  one_levels (Form.MisuseOf m ts) t is = absurd (false≢true is)
  one_levels (Form.Next x) t is = refl
  one_levels (Form.Prefix word x) t is = refl
  one_levels (Form.Binary word x y) t is = absurd (false≢true is)
  one_levels (Form.Mod x number_at n) t is = refl
  one_levels (Form.And ts operators) t is = absurd (false≢true is)
  one_levels (Form.Or ts operators) t is = absurd (false≢true is)
  one_levels (Form.Index array n x) t is = refl
  one_levels (Form.Quantified word variable extent low high ts) t is = absurd (false≢true is)

  pub several_nodes : (form : Form) (us : ResolvedTrees) → has_several form ≡ true → form_nodes (over_each brought form us) ≡ 1 + each_nodes us
  several_nodes (Form.LeafOf l) us is = absurd (false≢true is)
  several_nodes (Form.PredicateOf k ts) us is = absurd (false≢true is)
  several_nodes (Form.MisuseOf m ts) us is = absurd (false≢true is)
  several_nodes (Form.Next x) us is = absurd (false≢true is)
  several_nodes (Form.Prefix word x) us is = absurd (false≢true is)
  several_nodes (Form.Binary word x y) us is = absurd (false≢true is)
  several_nodes (Form.Mod x number_at n) us is = absurd (false≢true is)
  several_nodes (Form.And ts operators) us is = refl
  several_nodes (Form.Or ts operators) us is = refl
  several_nodes (Form.Index array n x) us is = absurd (false≢true is)
  several_nodes (Form.Quantified word variable extent low high ts) us is = absurd (false≢true is)

  pub several_levels : (form : Form) (us : ResolvedTrees) → has_several form ≡ true → form_levels (over_each brought form us) ≡ 1 + each_levels us
  several_levels (Form.LeafOf l) us is = absurd (false≢true is)
  several_levels (Form.PredicateOf k ts) us is = absurd (false≢true is)
  several_levels (Form.MisuseOf m ts) us is = absurd (false≢true is)
  several_levels (Form.Next x) us is = absurd (false≢true is)
  several_levels (Form.Prefix word x) us is = absurd (false≢true is)
  several_levels (Form.Binary word x y) us is = absurd (false≢true is)
  several_levels (Form.Mod x number_at n) us is = absurd (false≢true is)
  several_levels (Form.And ts operators) us is = refl
  several_levels (Form.Or ts operators) us is = refl
  several_levels (Form.Index array n x) us is = absurd (false≢true is)
  several_levels (Form.Quantified word variable extent low high ts) us is = absurd (false≢true is)
