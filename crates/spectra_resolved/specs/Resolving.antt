-- The tree of an expression with each name replaced by what it stands for, and the names that mean nothing in it.
use Rattle.spectra_trees.specs.Faults.{Arity, Unknown, WrongType, number_of as fault_number}
use Rattle.std.specs.Prelude.{ℕ, ◌==◌, true, false, List, [], ◌∷◌, ◌++◌, Option, Some, length, map, if◌then◌else◌}
use Rattle.spectra_trees.specs.Data as written
use Rattle.spectra_trees.specs.Data.{Expression, expression, Expressions}
use Rattle.spectra_resolved.specs.declared.spot.Spot.{Spot}
use Rattle.spectra_resolved.specs.declared.spot.Mark.{Mark}
use Rattle.spectra_resolved.specs.declared.tree.Leaf.TheVariants as leaves
use Rattle.spectra_resolved.specs.declared.tree.Misuse.{Misuse}
use Rattle.spectra_resolved.specs.declared.tree.Misuse.TheVariants as misuse
use Rattle.spectra_resolved.specs.declared.tree.QuantifierWord.TheVariants as words
use Rattle.spectra_resolved.specs.declared.tree.Extent.TheVariants as extents
use Rattle.spectra_resolved.specs.declared.table.Named.{Named}
use Rattle.spectra_resolved.specs.declared.table.Named.TheVariants as names
use Rattle.spectra_resolved.specs.declared.findings.Finding.{Finding}
use Rattle.spectra_resolved.specs.Findings.{fault}
use Rattle.spectra_resolved.specs.Numbers.{number_of, signed}
use Rattle.spectra_resolved.specs.Spots.{spot_at, spot_of, in_text}
use Rattle.spectra_resolved.specs.Looks.{Looking, bound_in}
use Rattle.spectra_resolved.specs.Resolved.{ResolvedTree, tree, Form, ResolvedTrees, listed}

-- ---- what a name is

-- a name without parentheses
abbrev pub read_form : Option Named → Form
read_form (Some (names.Leaf leaf)) = Form.LeafOf leaf
read_form (Some (names.Array k n)) = Form.MisuseOf (misuse.Called (leaves.Variable k)) ResolvedTrees.none
read_form (Some (names.Predicate k arity)) = Form.MisuseOf (misuse.Bare k) ResolvedTrees.none
read_form _ = Form.MisuseOf misuse.Unknown ResolvedTrees.none

-- a name with arguments
abbrev pub call_form : Option Named → ResolvedTrees → Form
call_form (Some (names.Leaf leaf)) ts = Form.MisuseOf (misuse.Called leaf) ts
call_form (Some (names.Array k n)) ts = Form.MisuseOf (misuse.Called (leaves.Variable k)) ts
call_form (Some (names.Predicate k arity)) ts = if length (listed ts) == arity then Form.PredicateOf k ts else Form.MisuseOf (misuse.Arity k) ts
call_form _ ts = Form.MisuseOf misuse.Unknown ts

-- a name with brackets behind it that is no array's
abbrev pub index_misuse : Option Named → Misuse
index_misuse (Some (names.Leaf leaf)) = misuse.Called leaf
index_misuse (Some (names.Predicate k arity)) = misuse.Bare k
index_misuse _ = misuse.Unknown

-- a name with what stands in the brackets behind it
abbrev pub index_form : Option Named → ResolvedTree → Form
index_form (Some (names.Array first n)) t = Form.Index first n t
index_form named t = Form.MisuseOf (index_misuse named) (ResolvedTrees.one_more t ResolvedTrees.none)

-- ---- the tree of an expression

abbrev mutual
  pub resolved : Looking → (file : ℕ) → Expression → ResolvedTree
  resolved look file (expression first at form) = resolved_form look file (spot_at file first) (in_text (spot_at file at)) form

  pub resolved_form : Looking → (file : ℕ) → (first : Spot) → (at : Mark) → written.Form → ResolvedTree
  resolved_form look file first at written.Form.True = tree first at (Form.LeafOf (leaves.Truth true))
  resolved_form look file first at written.Form.False = tree first at (Form.LeafOf (leaves.Truth false))
  resolved_form look file first at (written.Form.Number negative digits) = tree first at (Form.LeafOf (leaves.Number (signed negative digits)))
  resolved_form look file first at (written.Form.Read name) = tree first (in_text (spot_of file name)) (read_form (look name.text))
  resolved_form look file first at (written.Form.Call name es) = tree first (in_text (spot_of file name)) (call_form (look name.text) (resolved_each look file es))
  resolved_form look file first at (written.Form.Next e) = tree first at (Form.Next (resolved look file e))
  resolved_form look file first at (written.Form.Prefix word e) = tree first at (Form.Prefix word (resolved look file e))
  resolved_form look file first at (written.Form.Binary word a b) = tree first at (Form.Binary word (resolved look file a) (resolved look file b))
  resolved_form look file first at (written.Form.Mod e number digits) = tree first at (Form.Mod (resolved look file e) (spot_at file number) (number_of digits))
  resolved_form look file first at (written.Form.And es ops) = tree first at (Form.And (resolved_each look file es) (map (spot_at file) ops))
  resolved_form look file first at (written.Form.Or es ops) = tree first at (Form.Or (resolved_each look file es) (map (spot_at file) ops))
  resolved_form look file first at (written.Form.Index name e) = tree first (in_text (spot_of file name)) (index_form (look name.text) (resolved look file e))
  resolved_form look file first at (written.Form.ForAll name low high e) =
      tree first at (Form.Quantified words.ForAll (spot_of file name) extents.Open (resolved look file low) (resolved look file high)
      (ResolvedTrees.one_more (resolved (bound_in look name.text (spot_of file name)) file e) ResolvedTrees.none))
  resolved_form look file first at (written.Form.Exists name low high e) =
      tree first at (Form.Quantified words.Exists (spot_of file name) extents.Open (resolved look file low) (resolved look file high)
      (ResolvedTrees.one_more (resolved (bound_in look name.text (spot_of file name)) file e) ResolvedTrees.none))

  pub resolved_each : Looking → (file : ℕ) → Expressions → ResolvedTrees
  resolved_each look file Expressions.none = ResolvedTrees.none
  resolved_each look file (Expressions.one_more e es) = ResolvedTrees.one_more (resolved look file e) (resolved_each look file es)

-- ---- names that mean nothing where they stand

-- the number of the fault: an unknown name, a wrong number of arguments, a predicate without parentheses or another name with
abbrev pub fault_of : Misuse → ℕ
fault_of misuse.Unknown = fault_number Unknown
fault_of (misuse.Arity k) = fault_number Arity
fault_of (misuse.Bare k) = fault_number WrongType
fault_of (misuse.Called leaf) = fault_number WrongType

-- each misused name in a tree
abbrev mutual
  pub misuses : ResolvedTree → List Finding
  misuses (tree first at form) = form_misuses at.spot form

  pub form_misuses : Spot → Form → List Finding
  form_misuses at (Form.LeafOf leaf) = []
  form_misuses at (Form.PredicateOf k ts) = misuses_of_each ts
  form_misuses at (Form.MisuseOf m ts) = fault (fault_of m) at ∷ misuses_of_each ts
  form_misuses at (Form.Next t) = misuses t
  form_misuses at (Form.Prefix word t) = misuses t
  form_misuses at (Form.Binary word a b) = misuses a ++ misuses b
  form_misuses at (Form.Mod t number_at n) = misuses t
  form_misuses at (Form.And ts ops) = misuses_of_each ts
  form_misuses at (Form.Or ts ops) = misuses_of_each ts
  form_misuses at (Form.Index first n t) = misuses t
  form_misuses at (Form.Quantified word variable extent low high ts) = misuses low ++ (misuses high ++ misuses_of_each ts)

  pub misuses_of_each : ResolvedTrees → List Finding
  misuses_of_each ResolvedTrees.none = []
  misuses_of_each (ResolvedTrees.one_more t ts) = misuses t ++ misuses_of_each ts
