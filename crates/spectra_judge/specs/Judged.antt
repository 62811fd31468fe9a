-- The kind of an expression, and its faults.
use Rattle.spectra_trees.specs.Faults.{OutOfBounds, WideInt, WrongType, number_of}
use Rattle.std.specs.Prelude.{ℕ, ℤ, pos, int_le, Bool, true, false, not, if◌then◌else◌, List, [], ◌∷◌, ◌++◌, Option, Some, None, get_or, drop}
use Rattle.spectra_trees.specs.declared.tree.BinaryWord.{BinaryWord}
use Rattle.spectra_resolved.specs.declared.spot.Spot.{Spot}
use Rattle.spectra_resolved.specs.declared.spot.Mark.{Mark}
use Rattle.spectra_resolved.specs.declared.stand.Stand.{Stand}
use Rattle.spectra_resolved.specs.declared.tree.Extent.{Extent}
use Rattle.spectra_resolved.specs.declared.tree.Extent.TheVariants as extents
use Rattle.spectra_resolved.specs.declared.tree.Leaf.{Leaf}
use Rattle.spectra_resolved.specs.declared.tree.Leaf.TheVariants as leaf
use Rattle.spectra_resolved.specs.declared.tree.Hole.{Hole}
use Rattle.spectra_resolved.specs.declared.tree.Hole.TheVariants as hole
use Rattle.spectra_resolved.specs.declared.tree.Misuse.{Misuse}
use Rattle.spectra_resolved.specs.declared.tree.Misuse.TheVariants as misuse
use Rattle.spectra_resolved.specs.Resolved.{ResolvedTree, tree, Form, ResolvedTrees}
use Rattle.spectra_resolved.specs.declared.findings.Finding.{Finding}
use Rattle.spectra_resolved.specs.Findings.{fault}
use Rattle.spectra_resolved.specs.Resolving.{fault_of}
use Rattle.spectra_judge.specs.Findings.{fault_if}
use Rattle.spectra_judge.specs.Kinds.{Kind, Truth, Whole, SomeWhole, OneName, Anything, is_truth, is_whole, is_wide, is_outside, can_equal, reduced}
use Rattle.spectra_judge.specs.Operators.{takes, gives, is_past, is_past_prefix}
use Rattle.spectra_judge.specs.Standings.{bans_of, is_wanted}
use Rattle.spectra_judge.specs.Around.{Around, nothing_open, under_next, in_bound, within, next_faults, past_faults, variable_faults, parameter_faults, own_faults}
use Rattle.spectra_judge.specs.Known.{Known, Setting, is_system, wanted}

-- ---- kinds

abbrev pub hole_kind : Hole → Kind
hole_kind hole.Anything = Anything
hole_kind hole.Truth = Truth

abbrev pub leaf_kind : Known → Leaf → Kind
leaf_kind known (leaf.Truth b) = Truth
leaf_kind known (leaf.Number z) = Whole z z
leaf_kind known (leaf.EnumName n) = OneName n
leaf_kind known (leaf.Variable k) = get_or known.variables k Anything
leaf_kind known (leaf.Parameter k) = get_or known.parameters k Anything
leaf_kind known (leaf.Own k) = get_or known.own k Anything
leaf_kind known (leaf.Define k) = get_or known.defines k Anything
leaf_kind known (leaf.Bound at) = SomeWhole
leaf_kind known (leaf.Hole h) = hole_kind h

abbrev pub misuse_kind : Misuse → Kind
misuse_kind (misuse.Arity k) = Truth
misuse_kind _ = Anything

-- An operator gives its own kind, whatever its operands are.
abbrev mutual
  pub kind_of : Known → ResolvedTree → Kind
  kind_of known (tree first at form) = form_kind known form

  pub form_kind : Known → Form → Kind
  form_kind known (Form.LeafOf l) = leaf_kind known l
  form_kind known (Form.PredicateOf k ts) = Truth
  form_kind known (Form.MisuseOf m ts) = misuse_kind m
  form_kind known (Form.Next t) = kind_of known t
  form_kind known (Form.Prefix word t) = Truth
  form_kind known (Form.Binary word a b) = gives word (kind_of known a) (kind_of known b)
  form_kind known (Form.Mod t number_at n) = reduced n
  form_kind known (Form.And ts operators) = Truth
  form_kind known (Form.Or ts operators) = Truth
  form_kind known (Form.Index first n t) = get_or known.variables first Anything
  form_kind known (Form.Quantified word variable extent low high ts) = Truth

-- ---- the faults of one part

-- an operand or argument of the wrong kind
abbrev pub wrong : (right : Bool) → Spot → List Finding
wrong right at = fault_if (not right) (number_of WrongType) at

-- a span that is too wide
abbrev pub wide : Kind → Spot → List Finding
wide k at = fault_if (is_wide k) (number_of WideInt) at

abbrev pub binary_faults : BinaryWord → Kind → Kind → Spot → List Finding
binary_faults word a b at = wrong (takes word a b) at ++ wide (gives word a b) at

-- the number of a remainder is 0, or the remainders are too many
abbrev pub remainder_faults : Kind → (operator number_at : Spot) → ℤ → List Finding
remainder_faults k operator number_at n = wrong (is_whole k) operator ++ (fault_if (int_le n (pos 0)) (number_of WideInt) number_at ++ wide (reduced n) operator)

-- an operator where it stands, which speaks of the past or not
abbrev pub operator_faults : Setting → (past : Bool) → (next : Option Mark) → Mark → List Finding
operator_faults s past next at = if past then past_faults s.bans next at else []

abbrev pub leaf_faults : Setting → Around → Mark → Leaf → List Finding
leaf_faults s o at (leaf.Number z) = wide (Whole z z) at.spot
leaf_faults s o at (leaf.Variable k) = variable_faults s.bans o at (is_system s.known k)
leaf_faults s o at (leaf.Parameter k) = parameter_faults s.bans o at
leaf_faults s o at (leaf.Own k) = own_faults s.bans o at
leaf_faults s o at _ = []

-- A misused name is a fault at the name. One behind which there may be no parentheses is read all the same.
abbrev pub called_faults : Setting → Around → Mark → Misuse → List Finding
called_faults s o at (misuse.Called l) = leaf_faults s o at l
called_faults s o at _ = []

abbrev pub misuse_faults : Setting → Around → Mark → Misuse → List Finding
misuse_faults s o at m = fault (fault_of m) at.spot ∷ called_faults s o at m

-- An index of this kind, with its first token, behind the name of an array of so many elements, the first of which has this
-- number: the array is read, the index is a whole number, and it is one of an element.
abbrev pub index_faults : Setting → Around → Mark → (array count : ℕ) → Kind → (first : Spot) → List Finding
index_faults s o at array n k first =
    variable_faults s.bans o at (is_system s.known array) ++ (wrong (is_whole k) first ++ fault_if (is_outside n k) (number_of OutOfBounds) at.spot)

-- bounds that have numbers, but no range of them
abbrev pub is_wrong : Extent → Bool
is_wrong extents.Open = false
is_wrong extents.Wrong = true
is_wrong extents.Right = false

-- ---- the faults of an expression

abbrev pub first_of : ResolvedTree → Spot
first_of (tree first at form) = first

abbrev mutual
  pub faults : Setting → Around → ResolvedTree → List Finding
  faults s o (tree first at form) = form_faults s o at form

  pub form_faults : Setting → Around → Mark → Form → List Finding
  form_faults s o at (Form.LeafOf l) = leaf_faults s o at l
  form_faults s o at (Form.PredicateOf k ts) = argument_faults s o (wanted s.known (Some k)) ts
  form_faults s o at (Form.MisuseOf m ts) = misuse_faults s o at m ++ argument_faults s o (wanted s.known None) ts
  form_faults s o at (Form.Next t) = next_faults s.bans o at ++ faults s (under_next at o) t
  form_faults s o at (Form.Prefix word t) =
      operator_faults s (is_past_prefix word) o.next at ++ (faults s (within (is_past_prefix word) at o) t ++ wrong (is_truth (kind_of s.known t)) at.spot)
  form_faults s o at (Form.Binary word a b) =
      faults s (within (is_past word) at o) a
      ++ (operator_faults s (is_past word) o.next at ++ (faults s (within (is_past word) at o) b ++ binary_faults word (kind_of s.known a) (kind_of s.known b) at.spot))
  form_faults s o at (Form.Mod t number_at n) = faults s o t ++ remainder_faults (kind_of s.known t) at.spot number_at n
  form_faults s o at (Form.And ts operators) = operand_faults s o at.spot (at.spot ∷ operators) ts
  form_faults s o at (Form.Or ts operators) = operand_faults s o at.spot (at.spot ∷ operators) ts
  form_faults s o at (Form.Index first n t) = faults s o t ++ index_faults s o at first n (kind_of s.known t) (first_of t)
  form_faults s o at (Form.Quantified word variable extent low high ts) =
      ((faults s (in_bound at o) low ++ wrong (is_whole (kind_of s.known low)) (first_of low))
      ++ (faults s (in_bound at o) high ++ wrong (is_whole (kind_of s.known high)) (first_of high)))
      ++ (fault_if (is_wrong extent) (number_of WideInt) at.spot ++ copy_faults s o ts)

  -- Operands of a conjunction or disjunction, each with the operator before it, and the first one with the operator behind it.
  pub operand_faults : Setting → Around → (at : Spot) → (operators : List Spot) → ResolvedTrees → List Finding
  operand_faults s o at operators ResolvedTrees.none = []
  operand_faults s o at operators (ResolvedTrees.one_more t ts) =
      faults s o t ++ (wrong (is_truth (kind_of s.known t)) (get_or operators 0 at) ++ operand_faults s o at (drop 1 operators) ts)

  -- the copies of a quantifier's body, each a truth value
  pub copy_faults : Setting → Around → ResolvedTrees → List Finding
  copy_faults s o ResolvedTrees.none = []
  copy_faults s o (ResolvedTrees.one_more t ts) = faults s o t ++ (wrong (is_truth (kind_of s.known t)) (first_of t) ++ copy_faults s o ts)

  -- arguments for parameters of these kinds
  pub argument_faults : Setting → Around → (kinds : List Kind) → ResolvedTrees → List Finding
  argument_faults s o kinds ResolvedTrees.none = []
  argument_faults s o kinds (ResolvedTrees.one_more t ts) =
      faults s o t ++ (wrong (can_equal (get_or kinds 0 Anything) (kind_of s.known t)) (first_of t) ++ argument_faults s o (drop 1 kinds) ts)

-- those of both bounds of a quantifier, which are whole numbers
abbrev pub bound_faults : Setting → Around → Mark → (low high : ResolvedTree) → List Finding
bound_faults s o at low high =
    (faults s (in_bound at o) low ++ wrong (is_whole (kind_of s.known low)) (first_of low))
    ++ (faults s (in_bound at o) high ++ wrong (is_whole (kind_of s.known high)) (first_of high))

-- every fault of an expression where it stands
abbrev pub faults_of : Known → Stand → ResolvedTree → List Finding
faults_of known stand t = faults (record { known = known; bans = bans_of stand }) nothing_open t ++ wrong (is_wanted stand (kind_of known t)) (first_of t)
