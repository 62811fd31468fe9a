-- What nodes stand for, one by one.
use Rattle.std.proofs.Common.{◌≡◌, ℤ, map, sym, ap, ◌∙◌}
use Rattle.spectra_trees.specs.declared.tree.PrefixWord.{PrefixWord}
use Rattle.spectra_resolved.specs.declared.spot.Spot.{Spot}
use Rattle.spectra_resolved.specs.declared.spot.Mark.{Mark}
use Rattle.spectra_resolved.specs.declared.tree.Leaf.{Leaf}
use Rattle.spectra_resolved.specs.declared.tree.Misuse.{Misuse}
use Rattle.spectra_resolved.specs.declared.tree.QuantifierWord.{QuantifierWord}
use Rattle.spectra_resolved.specs.declared.tree.Extent.{Extent}
use Rattle.spectra_resolved.specs.declared.tree.Resolved.{Resolved-F, fold-roll-Resolved}
use Rattle.spectra_resolved.specs.declared.tree.Resolved.TheVariants as trees_of
use Rattle.spectra_resolved.specs.declared.tree.Resolved.TheVariants.{rolls-Node}
use Rattle.spectra_resolved.specs.declared.tree.Shape.{Shape, Shape-F, fold-roll-Shape}
use Rattle.spectra_resolved.specs.declared.tree.Shape.TheVariants as variants
use Rattle.spectra_resolved.specs.declared.tree.Shape.TheVariants.{rolls-Leaf, rolls-Predicate, rolls-Misuse, rolls-Next, rolls-Prefix, rolls-Mod, rolls-And, rolls-Or, rolls-Index, rolls-Quantified}
use Rattle.spectra_resolved.specs.Resolved.{ResolvedTree, tree, Form}
use Rattle.spectra_resolved.specs.Chained.{LinkData, trees}
use Rattle.spectra_resolved.specs.Views.{resolved_data, form_data, resolved_step, shape_step, link_step}

pub leaf_data : (leaf : Leaf) → form_data (variants.Leaf leaf) ≡ Form.LeafOf leaf
leaf_data leaf = ap form_data (sym (rolls-Leaf leaf)) ∙ fold-roll-Shape ResolvedTree Form LinkData resolved_step shape_step link_step (Shape-F.Leaf leaf)

pub predicate_data : (number ts : _) → form_data (variants.Predicate number ts) ≡ Form.PredicateOf number (trees (map resolved_data ts.items))
predicate_data number ts = ap form_data (sym (rolls-Predicate number ts)) ∙ fold-roll-Shape ResolvedTree Form LinkData resolved_step shape_step link_step (Shape-F.Predicate number ts)

pub misuse_data : (misuse : Misuse) (ts : _) → form_data (variants.Misuse misuse ts) ≡ Form.MisuseOf misuse (trees (map resolved_data ts.items))
misuse_data misuse ts = ap form_data (sym (rolls-Misuse misuse ts)) ∙ fold-roll-Shape ResolvedTree Form LinkData resolved_step shape_step link_step (Shape-F.Misuse misuse ts)

pub next_data : (t : _) → form_data (variants.Next t) ≡ Form.Next (resolved_data t.value)
next_data t = ap form_data (sym (rolls-Next t)) ∙ fold-roll-Shape ResolvedTree Form LinkData resolved_step shape_step link_step (Shape-F.Next t)

pub prefix_data : (word : PrefixWord) (t : _) → form_data (variants.Prefix word t) ≡ Form.Prefix word (resolved_data t.value)
prefix_data word t = ap form_data (sym (rolls-Prefix word t)) ∙ fold-roll-Shape ResolvedTree Form LinkData resolved_step shape_step link_step (Shape-F.Prefix word t)

pub mod_data : (t : _) (number_at : Spot) (n : ℤ) → form_data (variants.Mod t number_at n) ≡ Form.Mod (resolved_data t.value) number_at n
mod_data t number_at n = ap form_data (sym (rolls-Mod t number_at n)) ∙ fold-roll-Shape ResolvedTree Form LinkData resolved_step shape_step link_step (Shape-F.Mod t number_at n)

pub and_data : (ts operators : _) → form_data (variants.And ts operators) ≡ Form.And (trees (map resolved_data ts.items)) operators.items
and_data ts operators = ap form_data (sym (rolls-And ts operators)) ∙ fold-roll-Shape ResolvedTree Form LinkData resolved_step shape_step link_step (Shape-F.And ts operators)

pub or_data : (ts operators : _) → form_data (variants.Or ts operators) ≡ Form.Or (trees (map resolved_data ts.items)) operators.items
or_data ts operators = ap form_data (sym (rolls-Or ts operators)) ∙ fold-roll-Shape ResolvedTree Form LinkData resolved_step shape_step link_step (Shape-F.Or ts operators)

pub index_data : (array n t : _) → form_data (variants.Index array n t) ≡ Form.Index array n (resolved_data t.value)
index_data array n t = ap form_data (sym (rolls-Index array n t)) ∙ fold-roll-Shape ResolvedTree Form LinkData resolved_step shape_step link_step (Shape-F.Index array n t)

pub quantified_data : (word : QuantifierWord) (variable : Spot) (extent : Extent) (low high ts : _)
    → form_data (variants.Quantified word variable extent low high ts) ≡ Form.Quantified word variable extent (resolved_data low.value) (resolved_data high.value) (trees (map resolved_data ts.items))
quantified_data word variable extent low high ts =
    ap form_data (sym (rolls-Quantified word variable extent low high ts)) ∙ fold-roll-Shape ResolvedTree Form LinkData resolved_step shape_step link_step (Shape-F.Quantified word variable extent low high ts)

-- a tree that is a node
pub node_data : (first : Spot) (at : Mark) (shape : Shape) → resolved_data (trees_of.Node first at shape) ≡ tree first at (form_data shape)
node_data first at shape = ap resolved_data (sym (rolls-Node first at shape)) ∙ fold-roll-Resolved ResolvedTree Form LinkData resolved_step shape_step link_step (Resolved-F.Node first at shape)
