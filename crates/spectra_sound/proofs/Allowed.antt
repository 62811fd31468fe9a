-- What may stand in an expression may stand in it written out, where numbers may stand.
use Rattle.std.proofs.Common.{◌≡◌, ℕ, ℤ, suc, true, List, [], ◌∷◌, ◌++◌, Option, Some, None, length, refl, ap, ◌∙◌}
use Rattle.std.proofs.lemmas.Bool.{and_parts, and_from, false≢true}
use Rattle.spectra_resolved.specs.declared.spot.Spot.{Spot}
use Rattle.spectra_resolved.specs.declared.tree.Leaf.{Leaf}
use Rattle.spectra_resolved.specs.declared.tree.Leaf.TheVariants as leaf
use Rattle.spectra_resolved.specs.declared.tree.Extent.{Extent}
use Rattle.spectra_resolved.specs.declared.tree.Extent.TheVariants as extents
use Rattle.spectra_resolved.specs.Resolved.{ResolvedTree, tree, Form, ResolvedTrees, listed}
use Rattle.spectra_copies.specs.Numbers.{number_in}
use Rattle.spectra_copies.specs.declared.ranges.Bound.{Bound}
use Rattle.spectra_copies.specs.declared.ranges.Range.{Range}
use Rattle.spectra_copies.specs.declared.ranges.Range.TheVariants as ranges
use Rattle.spectra_copies.specs.Ranges.{range_of, numbers_between, number_at}
use Rattle.spectra_copies.specs.Copies.{bound_with, number_leaf, written_leaf, joined_trees, copies_for, extent_of, copies_of, written, form_out, each_out}
use Rattle.spectra_judge.specs.PutIn.{Parts, seen_inside}
use Rattle.spectra_elaboration.specs.Written.{is_use, is_written_leaf, is_written, form_written, each_written}
use Rattle.spectra_elaboration.proofs.WrittenOut.{leaf_stays}
use Rattle.spectra_elaboration.proofs.OutWhole.{Covers, OpenInside, kept_inside, numbered_inside}

-- an expression without quantifiers around stays as it may be
pub covers_itself : (good : Parts) → ((z : ℤ) → good.leaf (leaf.Number z) ≡ true) → Covers [] good good
covers_itself good numbers = record { leaves = λ l is. ap good.leaf (leaf_stays l) ∙ is; arrays = λ first n is. is; numbers = numbers }

module _ (arities : List ℕ) (params : ℕ) (c : List (Option ℤ)) where
  leaf_out : (q : List Bound) (g h : Parts) → Covers q g h → (l : Leaf) → is_written_leaf arities g params l ≡ true → is_written_leaf arities h params (written_leaf q l) ≡ true
  leaf_out q g h covers (leaf.Truth b) is = covers.leaves (leaf.Truth b) is
  leaf_out q g h covers (leaf.Number z) is = covers.leaves (leaf.Number z) is
  leaf_out q g h covers (leaf.EnumName k) is = covers.leaves (leaf.EnumName k) is
  leaf_out q g h covers (leaf.Variable k) is = covers.leaves (leaf.Variable k) is
  leaf_out q g h covers (leaf.Parameter k) is = is
  leaf_out q g h covers (leaf.Own k) is = covers.leaves (leaf.Own k) is
  leaf_out q g h covers (leaf.Define k) is = is
  leaf_out q g h covers (leaf.Hole x) is = covers.leaves (leaf.Hole x) is
  leaf_out q g h covers (leaf.Bound at) is = by (number_at q at) (covers.leaves (leaf.Bound at) is)
    where
      by : (o : Option ℤ) → h.leaf (number_leaf o (leaf.Bound at)) ≡ true → is_written_leaf arities h params (number_leaf o (leaf.Bound at)) ≡ true
      by (Some z) is = is
      by None is = is

  joined_written : (h : Parts) (ts us : ResolvedTrees) → each_written arities h params ts ≡ true → each_written arities h params us ≡ true → each_written arities h params (joined_trees ts us) ≡ true
  joined_written h ResolvedTrees.none us first rest = rest
  joined_written h (ResolvedTrees.one_more t ts) us first rest =
      let parts = and_parts (is_written arities h params t) (each_written arities h params ts) first in and_from _ _ parts.0 (joined_written h ts us parts.1 rest)

  copies_written : (h : Parts) (copy : ℤ → ResolvedTrees) → ((z : ℤ) → each_written arities h params (copy z) ≡ true) → (zs : List ℤ) → each_written arities h params (copies_for copy zs) ≡ true
  copies_written h copy all [] = refl
  copies_written h copy all (z ∷ zs) = joined_written h (copy z) (copies_for copy zs) (all z) (copies_written h copy all zs)

  -- the copies of a quantifier
  parts_written : (variable : Spot) (g h : Parts) (extent : Extent) (range : Range) (copy : ℤ → ResolvedTrees) (body ts : ResolvedTrees) →
      (each_written arities (OpenInside variable g) params ts ≡ true → (z : ℤ) → each_written arities h params (copy z) ≡ true) →
      (each_written arities (OpenInside variable g) params ts ≡ true → each_written arities (OpenInside variable h) params body ≡ true) →
      (each_written arities g params ts ≡ true → each_written arities h params body ≡ true) →
      each_written arities (seen_inside extent variable g) params ts ≡ true → each_written arities (seen_inside (extent_of extent range) variable h) params (copies_of extent range copy body) ≡ true
  parts_written variable g h extents.Open (ranges.Right low high) copy body ts each inside whole is = copies_written h copy (each is) (numbers_between low high)
  parts_written variable g h extents.Open ranges.Wrong copy body ts each inside whole is = inside is
  parts_written variable g h extents.Open ranges.Open copy body ts each inside whole is = inside is
  parts_written variable g h extents.Wrong range copy body ts each inside whole is = inside is
  parts_written variable g h extents.Right range copy body ts each inside whole is = whole is

  same_many : (q : List Bound) (ts : ResolvedTrees) → length (listed (each_out c q ts)) ≡ length (listed ts)
  same_many q ResolvedTrees.none = refl
  same_many q (ResolvedTrees.one_more t ts) = ap suc (same_many q ts)

  mutual
    pub tree_out : (q : List Bound) (g h : Parts) → Covers q g h → (t : ResolvedTree) → is_written arities g params t ≡ true → is_written arities h params (written c q t) ≡ true
    tree_out q g h covers (tree first at form) is = any_out q g h covers form is

    any_out : (q : List Bound) (g h : Parts) → Covers q g h → (form : Form) → form_written arities g params form ≡ true → form_written arities h params (form_out c q form) ≡ true
    any_out q g h covers (Form.LeafOf l) is = leaf_out q g h covers l is
    any_out q g h covers (Form.PredicateOf k ts) is =
        let parts = and_parts (is_use arities k (length (listed ts))) (each_written arities g params ts) is in
        and_from _ _ (ap (is_use arities k) (same_many q ts) ∙ parts.0) (all_out q g h covers ts parts.1)
    any_out q g h covers (Form.MisuseOf m ts) is = absurd (false≢true is)
    any_out q g h covers (Form.Next t) is = tree_out q g h covers t is
    any_out q g h covers (Form.Prefix word t) is = tree_out q g h covers t is
    any_out q g h covers (Form.Binary word a b) is =
        let parts = and_parts (is_written arities g params a) (is_written arities g params b) is in and_from _ _ (tree_out q g h covers a parts.0) (tree_out q g h covers b parts.1)
    any_out q g h covers (Form.Mod t number_at n) is = tree_out q g h covers t is
    any_out q g h covers (Form.And ts operators) is = all_out q g h covers ts is
    any_out q g h covers (Form.Or ts operators) is = all_out q g h covers ts is
    any_out q g h covers (Form.Index first n t) is =
        let parts = and_parts (g.array first n) (is_written arities g params t) is in and_from _ _ (covers.arrays first n parts.0) (tree_out q g h covers t parts.1)
    any_out q g h covers (Form.Quantified word variable extent low high ts) is =
        let parts = and_parts (is_written arities g params low) _ is in
        let more = and_parts (is_written arities g params high) _ parts.1 in
        and_from _ _ (tree_out q g h covers low parts.0) (and_from _ _ (tree_out q g h covers high more.0)
        (parts_written variable g h extent (range_of (number_in c (written c q low)) (number_in c (written c q high)))
        (λ z. each_out c (q ++ bound_with variable z ∷ []) ts) (each_out c q ts) ts
        (λ is z. all_out (q ++ bound_with variable z ∷ []) (OpenInside variable g) h (numbered_inside q g h covers variable z) ts is)
        (λ is. all_out q (OpenInside variable g) (OpenInside variable h) (kept_inside q g h covers variable) ts is)
        (λ is. all_out q g h covers ts is) more.1))

    all_out : (q : List Bound) (g h : Parts) → Covers q g h → (ts : ResolvedTrees) → each_written arities g params ts ≡ true → each_written arities h params (each_out c q ts) ≡ true
    all_out q g h covers ResolvedTrees.none is = refl
    all_out q g h covers (ResolvedTrees.one_more t ts) is =
        let parts = and_parts (is_written arities g params t) (each_written arities g params ts) is in and_from _ _ (tree_out q g h covers t parts.0) (all_out q g h covers ts parts.1)

  -- an expression that is written out with no quantifier around it
  pub stays_written : (good : Parts) → ((z : ℤ) → good.leaf (leaf.Number z) ≡ true) → (t : ResolvedTree) → is_written arities good params t ≡ true → is_written arities good params (written c [] t) ≡ true
  stays_written good numbers t is = tree_out [] good good (covers_itself good numbers) t is
