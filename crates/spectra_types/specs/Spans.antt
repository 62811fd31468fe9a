-- Spans in whole numbers without bound, and whether an expression has one that is too wide.
use Rattle.std.specs.Prelude.{◌+ℤ◌, ◌-ℤ◌, ◌*ℤ◌, Bool, false, ◌||◌, get_or}
use Rattle.spectra_trees.specs.declared.tree.BinaryWord.{BinaryWord}
use Rattle.spectra_trees.specs.declared.tree.BinaryWord.TheVariants as binary
use Rattle.spectra_resolved.specs.declared.tree.Leaf.{Leaf}
use Rattle.spectra_resolved.specs.declared.tree.Leaf.TheVariants as leaf
use Rattle.spectra_resolved.specs.Resolved.{ResolvedTree, tree, Form, ResolvedTrees}
use Rattle.spectra_judge.specs.Kinds.{Kind, Truth, Whole, SomeWhole, Anything, is_wide, least_of, greatest_of, reduced}
use Rattle.spectra_judge.specs.Known.{Known}
use Rattle.spectra_judge.specs.Judged.{leaf_kind, misuse_kind}

-- ---- the least interval with all sums, differences and products of the ends

abbrev pub sum_of : Kind → Kind → Kind
sum_of (Whole a b) (Whole c d) = Whole (a +ℤ c) (b +ℤ d)
sum_of _ _ = SomeWhole

abbrev pub difference_of : Kind → Kind → Kind
difference_of (Whole a b) (Whole c d) = Whole (a -ℤ d) (b -ℤ c)
difference_of _ _ = SomeWhole

abbrev pub product_of : Kind → Kind → Kind
product_of (Whole a b) (Whole c d) = Whole (least_of (a *ℤ c) (a *ℤ d) (b *ℤ c) (b *ℤ d)) (greatest_of (a *ℤ c) (a *ℤ d) (b *ℤ c) (b *ℤ d))
product_of _ _ = SomeWhole

abbrev pub given_by : BinaryWord → Kind → Kind → Kind
given_by binary.Add a b = sum_of a b
given_by binary.Sub a b = difference_of a b
given_by binary.Mul a b = product_of a b
given_by _ a b = Truth

-- ---- expressions

-- what an expression gives: nothing is capped
abbrev mutual
  pub span_of : Known → ResolvedTree → Kind
  span_of known (tree first at form) = form_span known form

  pub form_span : Known → Form → Kind
  form_span known (Form.LeafOf l) = leaf_kind known l
  form_span known (Form.PredicateOf k ts) = Truth
  form_span known (Form.MisuseOf m ts) = misuse_kind m
  form_span known (Form.Next t) = span_of known t
  form_span known (Form.Prefix word t) = Truth
  form_span known (Form.Binary word a b) = given_by word (span_of known a) (span_of known b)
  form_span known (Form.Mod t number_at n) = reduced n
  form_span known (Form.And ts operators) = Truth
  form_span known (Form.Or ts operators) = Truth
  form_span known (Form.Index first n t) = get_or known.variables first Anything
  form_span known (Form.Quantified word variable extent low high ts) = Truth

-- whether a number is too great, which gives this
abbrev pub is_wide_leaf : Kind → Leaf → Bool
is_wide_leaf k (leaf.Number z) = is_wide k
is_wide_leaf k _ = false

-- whether in an expression a number or an operator is too wide, by what each part gives
abbrev mutual
  pub has_wide : (ResolvedTree → Kind) → ResolvedTree → Bool
  has_wide gives (tree first at form) = form_has_wide gives (gives (tree first at form)) form

  pub form_has_wide : (ResolvedTree → Kind) → Kind → Form → Bool
  form_has_wide gives k (Form.LeafOf l) = is_wide_leaf k l
  form_has_wide gives k (Form.PredicateOf n ts) = have_wide gives ts
  form_has_wide gives k (Form.MisuseOf m ts) = have_wide gives ts
  form_has_wide gives k (Form.Next t) = has_wide gives t
  form_has_wide gives k (Form.Prefix word t) = has_wide gives t
  form_has_wide gives k (Form.Binary word a b) = is_wide k || (has_wide gives a || has_wide gives b)
  form_has_wide gives k (Form.Mod t number_at n) = is_wide k || has_wide gives t
  form_has_wide gives k (Form.And ts operators) = have_wide gives ts
  form_has_wide gives k (Form.Or ts operators) = have_wide gives ts
  form_has_wide gives k (Form.Index first n t) = has_wide gives t
  form_has_wide gives k (Form.Quantified word variable extent low high ts) = has_wide gives low || (has_wide gives high || have_wide gives ts)

  pub have_wide : (ResolvedTree → Kind) → ResolvedTrees → Bool
  have_wide gives ResolvedTrees.none = false
  have_wide gives (ResolvedTrees.one_more t ts) = has_wide gives t || have_wide gives ts
