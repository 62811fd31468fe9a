-- How many nodes an expression has, and the room for them.
use Rattle.std.specs.Prelude.{ℕ, ◌+◌, ◌-◌, nat_le, if◌then◌else◌, Option, Some, None}
use Rattle.spectra_resolved.specs.Resolved.{ResolvedTree, tree, Form, ResolvedTrees}

-- Operands of one conjunction or disjunction are of one node. Of a quantifier the bounds count and all copies.
abbrev mutual
  pub tree_nodes : ResolvedTree → ℕ
  tree_nodes (tree first at form) = form_nodes form

  pub form_nodes : Form → ℕ
  form_nodes (Form.LeafOf l) = 1
  form_nodes (Form.PredicateOf k ts) = 1 + each_nodes ts
  form_nodes (Form.MisuseOf m ts) = 1 + each_nodes ts
  form_nodes (Form.Next t) = 1 + tree_nodes t
  form_nodes (Form.Prefix word t) = 1 + tree_nodes t
  form_nodes (Form.Binary word a b) = 1 + (tree_nodes a + tree_nodes b)
  form_nodes (Form.Mod t number_at n) = 1 + tree_nodes t
  form_nodes (Form.And ts operators) = 1 + each_nodes ts
  form_nodes (Form.Or ts operators) = 1 + each_nodes ts
  form_nodes (Form.Index first n t) = 1 + tree_nodes t
  form_nodes (Form.Quantified word variable extent low high ts) = 1 + (tree_nodes low + (tree_nodes high + each_nodes ts))

  pub each_nodes : ResolvedTrees → ℕ
  each_nodes ResolvedTrees.none = 0
  each_nodes (ResolvedTrees.one_more t ts) = tree_nodes t + each_nodes ts

-- the room that is left behind so many nodes, where there is room for them
abbrev pub room_behind : (room nodes : ℕ) → Option ℕ
room_behind room nodes = if nat_le nodes room then Some (room - nodes) else None
