-- How many levels of an expression stand in one another.
use Rattle.std.specs.Prelude.{ℕ, ◌+◌, ◌-◌, max, nat_le, Bool, true, false, ◌&&◌, if◌then◌else◌, Option, Some, None}
use Rattle.spectra_trees.specs.declared.tree.BinaryWord.{BinaryWord}
use Rattle.spectra_trees.specs.declared.tree.BinaryWord.TheVariants as binary
use Rattle.spectra_resolved.specs.Resolved.{ResolvedTree, tree, Form, ResolvedTrees}
use Rattle.spectra_copies.specs.Nodes.{tree_nodes}

-- whether an operator is one of a row, which is one level
abbrev pub is_row_word : BinaryWord → Bool
is_row_word binary.Add = true
is_row_word binary.Sub = true
is_row_word binary.Mul = true
is_row_word _ = false

-- whether an expression ends with such an operator
abbrev pub form_is_row : Form → Bool
form_is_row (Form.Binary word a b) = is_row_word word
form_is_row _ = false

abbrev pub is_row : ResolvedTree → Bool
is_row (tree first at form) = form_is_row form

-- the levels of an operator's first operand, which has so many: a row that goes on is no level of its own
abbrev pub first_levels : BinaryWord → ResolvedTree → ℕ → ℕ
first_levels word t n = if is_row_word word && is_row t then n - 1 else n

-- a part without parts is one level, and so is what isn't put in
abbrev mutual
  pub tree_levels : ResolvedTree → ℕ
  tree_levels (tree first at form) = form_levels form

  pub form_levels : Form → ℕ
  form_levels (Form.LeafOf l) = 1
  form_levels (Form.PredicateOf k ts) = 1
  form_levels (Form.MisuseOf m ts) = 1
  form_levels (Form.Next t) = 1 + tree_levels t
  form_levels (Form.Prefix word t) = 1 + tree_levels t
  form_levels (Form.Binary word a b) = 1 + max (first_levels word a (tree_levels a)) (tree_levels b)
  form_levels (Form.Mod t number_at n) = 1 + tree_levels t
  form_levels (Form.And ts operators) = 1 + each_levels ts
  form_levels (Form.Or ts operators) = 1 + each_levels ts
  form_levels (Form.Index first n t) = 1 + tree_levels t
  form_levels (Form.Quantified word variable extent low high ts) = 1 + max (tree_levels low) (max (tree_levels high) (each_levels ts))

  pub each_levels : ResolvedTrees → ℕ
  each_levels ResolvedTrees.none = 0
  each_levels (ResolvedTrees.one_more t ts) = max (tree_levels t) (each_levels ts)

-- an expression where there is room for its nodes and levels
abbrev pub within_limits : (nodes levels : ℕ) → ResolvedTree → Option ResolvedTree
within_limits nodes levels t = if nat_le (tree_nodes t) nodes && nat_le (tree_levels t) levels then Some t else None

-- an expression where there is room for its nodes alone
abbrev pub within_room : (nodes : ℕ) → ResolvedTree → Option ResolvedTree
within_room nodes t = if nat_le (tree_nodes t) nodes then Some t else None
