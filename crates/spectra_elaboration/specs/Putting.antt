-- Expressions in which everything is put in: bodies for uses of definitions, and arguments for parameters.
use Rattle.std.specs.Prelude.{ℕ, zero, suc, List, [], Option, Some, None, length, map, get_or}
use Rattle.spectra_resolved.specs.declared.spot.Spot.{Spot}
use Rattle.spectra_resolved.specs.declared.spot.Mark.{Mark}
use Rattle.spectra_resolved.specs.Spots.{brought_at}
use Rattle.spectra_resolved.specs.declared.tree.Leaf.{Leaf}
use Rattle.spectra_resolved.specs.declared.tree.Leaf.TheVariants as leaf
use Rattle.spectra_resolved.specs.declared.tree.Hole.{Hole}
use Rattle.spectra_resolved.specs.declared.tree.Hole.TheVariants as hole
use Rattle.spectra_resolved.specs.declared.tree.Misuse.{Misuse}
use Rattle.spectra_resolved.specs.declared.tree.Misuse.TheVariants as misuse
use Rattle.spectra_resolved.specs.Resolved.{ResolvedTree, tree, Form, ResolvedTrees, listed}
use Rattle.spectra_copies.specs.Places.{placed, marked}
use Rattle.spectra_copies.specs.Copies.{written}

-- What is put in for each definition of a text: its body, with holes for faulty arguments; and nothing where the definition
-- has no meaning, since it is faulty as it is written or is used in its own body.
abbrev pub Bodies : Type 0
Bodies = List (Option ResolvedTree)

-- ---- holes

abbrev pub hole_at : Spot → Hole → ResolvedTree
hole_at at h = tree at (brought_at at) (Form.LeafOf (leaf.Hole h))

-- a misused name has no meaning
abbrev pub misuse_hole : Misuse → Hole
misuse_hole (misuse.Arity k) = hole.Truth
misuse_hole _ = hole.Anything

-- ---- everything put in

-- how the use of a definition is put in: a hole in its place, its number, the place of its name, and its arguments
abbrev pub Put : Type 0
Put = Hole → ℕ → Spot → List ResolvedTree → ResolvedTree

abbrev pub leaf_put : Put → List ResolvedTree → (first : Spot) → (at : Mark) → Leaf → ResolvedTree
leaf_put put arguments first at (leaf.Define k) = put hole.Anything k at.spot []
leaf_put put arguments first at (leaf.Parameter k) = get_or arguments k (tree first at (Form.LeafOf (leaf.Parameter k)))
leaf_put put arguments first at l = tree first at (Form.LeafOf l)

-- an expression of a body, where parameters stand for arguments, or of the line itself
abbrev mutual
  pub filled : Put → (brought : Option Spot) → (arguments : List ResolvedTree) → ResolvedTree → ResolvedTree
  filled put brought arguments (tree first at form) = form_filled put brought arguments (placed brought first) (marked brought at) form

  pub form_filled : Put → (brought : Option Spot) → (arguments : List ResolvedTree) → (first : Spot) → (at : Mark) → Form → ResolvedTree
  form_filled put brought arguments first at (Form.LeafOf l) = leaf_put put arguments first at l
  form_filled put brought arguments first at (Form.PredicateOf k ts) = put hole.Truth k at.spot (listed (each_filled put brought arguments ts))
  form_filled put brought arguments first at (Form.MisuseOf m ts) = tree first at (Form.LeafOf (leaf.Hole (misuse_hole m)))
  form_filled put brought arguments first at (Form.Next t) = tree first at (Form.Next (filled put brought arguments t))
  form_filled put brought arguments first at (Form.Prefix word t) = tree first at (Form.Prefix word (filled put brought arguments t))
  form_filled put brought arguments first at (Form.Binary word x y) = tree first at (Form.Binary word (filled put brought arguments x) (filled put brought arguments y))
  form_filled put brought arguments first at (Form.Mod t number_at n) = tree first at (Form.Mod (filled put brought arguments t) (placed brought number_at) n)
  form_filled put brought arguments first at (Form.And ts operators) = tree first at (Form.And (each_filled put brought arguments ts) (map (placed brought) operators))
  form_filled put brought arguments first at (Form.Or ts operators) = tree first at (Form.Or (each_filled put brought arguments ts) (map (placed brought) operators))
  form_filled put brought arguments first at (Form.Index array n t) = tree first at (Form.Index array n (filled put brought arguments t))
  form_filled put brought arguments first at (Form.Quantified word variable extent low high ts) =
      tree first at (Form.Quantified word variable extent (filled put brought arguments low) (filled put brought arguments high) (each_filled put brought arguments ts))

  pub each_filled : Put → (brought : Option Spot) → (arguments : List ResolvedTree) → ResolvedTrees → ResolvedTrees
  each_filled put brought arguments ResolvedTrees.none = ResolvedTrees.none
  each_filled put brought arguments (ResolvedTrees.one_more t ts) = ResolvedTrees.one_more (filled put brought arguments t) (each_filled put brought arguments ts)

-- the body of a definition that has a meaning
abbrev pub body_of : Bodies → ℕ → Option ResolvedTree
body_of b k = get_or b k None

abbrev pub body_put : Put → Hole → (at : Spot) → (arguments : List ResolvedTree) → Option ResolvedTree → ResolvedTree
body_put put h at arguments (Some body) = filled put (Some at) arguments body
body_put put h at arguments None = hole_at at h

-- The use of a definition, where bodies are put in one in another so often.
abbrev pub put_deep : (deep : ℕ) → Bodies → Put
put_deep zero b h k at arguments = hole_at at h
put_deep (suc deep) b h k at arguments = body_put (put_deep deep b) h at arguments (body_of b k)

-- an expression of a line with bodies for names: one body in another at most as often as there are definitions
abbrev pub with_bodies : Bodies → ResolvedTree → ResolvedTree
with_bodies b t = filled (put_deep (length b) b) None [] t

-- an expression of a line in which everything is put in, and each quantifier is written out whose bounds have numbers then
abbrev pub put_in : Bodies → ResolvedTree → ResolvedTree
put_in b t = written [] [] (with_bodies b t)
