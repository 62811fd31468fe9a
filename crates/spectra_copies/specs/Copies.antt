-- Expressions in which each quantifier whose bounds have numbers is written out.
use Rattle.std.specs.Prelude.{ℤ, Bool, true, false, ◌||◌, List, [], ◌∷◌, ◌++◌, Option, Some, None}
use Rattle.spectra_resolved.specs.declared.spot.Spot.{Spot}
use Rattle.spectra_resolved.specs.declared.tree.Leaf.{Leaf}
use Rattle.spectra_resolved.specs.declared.tree.Leaf.TheVariants as leaf
use Rattle.spectra_resolved.specs.declared.tree.Extent.{Extent}
use Rattle.spectra_resolved.specs.declared.tree.Extent.TheVariants as extents
use Rattle.spectra_resolved.specs.Resolved.{ResolvedTree, tree, Form, ResolvedTrees}
use Rattle.spectra_copies.specs.Numbers.{number_in}
use Rattle.spectra_copies.specs.Ranges.{Bound, Range, range_of, numbers_between, number_at}
use Rattle.spectra_copies.specs.declared.ranges.Range.TheVariants as ranges

-- ---- parts

-- a quantifier's variable with its number
abbrev pub bound_with : Spot → ℤ → Bound
bound_with at z = record { at = at; number = z }

-- a number for a quantifier's variable that has one
abbrev pub number_leaf : Option ℤ → Leaf → Leaf
number_leaf (Some z) l = leaf.Number z
number_leaf None l = l

abbrev pub written_leaf : List Bound → Leaf → Leaf
written_leaf q (leaf.Bound at) = number_leaf (number_at q at) (leaf.Bound at)
written_leaf q l = l

abbrev pub joined_trees : ResolvedTrees → ResolvedTrees → ResolvedTrees
joined_trees ResolvedTrees.none us = us
joined_trees (ResolvedTrees.one_more t ts) us = ResolvedTrees.one_more t (joined_trees ts us)

-- the copies for each of several numbers
abbrev pub copies_for : (ℤ → ResolvedTrees) → List ℤ → ResolvedTrees
copies_for copy [] = ResolvedTrees.none
copies_for copy (z ∷ zs) = joined_trees (copy z) (copies_for copy zs)

-- the range that is looked at: one that was looked at before stays what it is
abbrev pub extent_of : Extent → Range → Extent
extent_of extents.Open ranges.Open = extents.Open
extent_of extents.Open ranges.Wrong = extents.Wrong
extent_of extents.Open (ranges.Right low high) = extents.Right
extent_of extent range = extent

-- A body for each number of a range, by what it is with a number and without one.
abbrev pub copies_of : Extent → Range → (with_number : ℤ → ResolvedTrees) → (without : ResolvedTrees) → ResolvedTrees
copies_of extents.Open (ranges.Right low high) with_number without = copies_for with_number (numbers_between low high)
copies_of extent range with_number without = without

-- ---- the expression

-- `c` has the numbers of the defines that have one, and `q` those of the quantifiers around, the innermost last.
abbrev mutual
  pub written : (c : List (Option ℤ)) → (q : List Bound) → ResolvedTree → ResolvedTree
  written c q (tree first at form) = tree first at (form_out c q form)

  pub form_out : (c : List (Option ℤ)) → (q : List Bound) → Form → Form
  form_out c q (Form.LeafOf l) = Form.LeafOf (written_leaf q l)
  form_out c q (Form.PredicateOf k ts) = Form.PredicateOf k (each_out c q ts)
  form_out c q (Form.MisuseOf m ts) = Form.MisuseOf m (each_out c q ts)
  form_out c q (Form.Next t) = Form.Next (written c q t)
  form_out c q (Form.Prefix word t) = Form.Prefix word (written c q t)
  form_out c q (Form.Binary word a b) = Form.Binary word (written c q a) (written c q b)
  form_out c q (Form.Mod t number_at n) = Form.Mod (written c q t) number_at n
  form_out c q (Form.And ts operators) = Form.And (each_out c q ts) operators
  form_out c q (Form.Or ts operators) = Form.Or (each_out c q ts) operators
  form_out c q (Form.Index first n t) = Form.Index first n (written c q t)
  form_out c q (Form.Quantified word variable extent low high ts) =
      let range : Range = range_of (number_in c (written c q low)) (number_in c (written c q high)) in
      Form.Quantified word variable (extent_of extent range) (written c q low) (written c q high)
      (copies_of extent range (λ z. each_out c (q ++ bound_with variable z ∷ []) ts) (each_out c q ts))

  pub each_out : (c : List (Option ℤ)) → (q : List Bound) → ResolvedTrees → ResolvedTrees
  each_out c q ResolvedTrees.none = ResolvedTrees.none
  each_out c q (ResolvedTrees.one_more t ts) = ResolvedTrees.one_more (written c q t) (each_out c q ts)

-- ---- which have a quantifier

abbrev mutual
  pub has_quantifier : ResolvedTree → Bool
  has_quantifier (tree first at form) = form_quantified form

  pub form_quantified : Form → Bool
  form_quantified (Form.LeafOf l) = false
  form_quantified (Form.PredicateOf k ts) = some_quantified ts
  form_quantified (Form.MisuseOf m ts) = some_quantified ts
  form_quantified (Form.Next t) = has_quantifier t
  form_quantified (Form.Prefix word t) = has_quantifier t
  form_quantified (Form.Binary word a b) = has_quantifier a || has_quantifier b
  form_quantified (Form.Mod t number_at n) = has_quantifier t
  form_quantified (Form.And ts operators) = some_quantified ts
  form_quantified (Form.Or ts operators) = some_quantified ts
  form_quantified (Form.Index first n t) = has_quantifier t
  form_quantified (Form.Quantified word variable extent low high ts) = true

  pub some_quantified : ResolvedTrees → Bool
  some_quantified ResolvedTrees.none = false
  some_quantified (ResolvedTrees.one_more t ts) = has_quantifier t || some_quantified ts
