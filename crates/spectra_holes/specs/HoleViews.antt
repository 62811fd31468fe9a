-- Which expressions have no hole, and what is left of arguments and of operators in a row.
use Rattle.std.specs.Prelude.{Bool, true, not, ◌&&◌, if◌then◌else◌, List, [], ◌∷◌, Some, get_or, drop}
use Rattle.spectra_resolved.specs.Resolved.{ResolvedTree, tree, Form, ResolvedTrees}
use Rattle.spectra_resolved.specs.Chained.{LinkData}
use Rattle.spectra_judge.specs.Kinds.{Kind, Anything}
use Rattle.spectra_judge.specs.declared.around.Around.{Around}
use Rattle.spectra_judge.specs.Known.{Known, Setting, wanted}
use Rattle.spectra_judge.specs.Chains.{opened}
use Rattle.spectra_holes.specs.Holed.{is_anything, is_lost, hole_for, part_holed}

-- ---- the expression with holes

-- an argument for a parameter of a kind
abbrev pub argument_holed : Setting → Around → (parameter : Kind) → ResolvedTree → ResolvedTree
argument_holed s o k t = if is_lost s o k t then hole_for t else part_holed s o t

-- ---- types with a meaning

-- whether no parameter of a predicate that is used has a type without meaning
abbrev mutual
  pub is_meant : Known → ResolvedTree → Bool
  is_meant known (tree first at form) = form_meant known form

  pub form_meant : Known → Form → Bool
  form_meant known (Form.LeafOf l) = true
  form_meant known (Form.PredicateOf k ts) = arguments_meant known (wanted known (Some k)) ts
  form_meant known (Form.MisuseOf m ts) = true
  form_meant known (Form.Next t) = is_meant known t
  form_meant known (Form.Prefix word t) = is_meant known t
  form_meant known (Form.Binary word a b) = is_meant known a && is_meant known b
  form_meant known (Form.Mod t number_at n) = is_meant known t
  form_meant known (Form.And ts operators) = each_meant known ts
  form_meant known (Form.Or ts operators) = each_meant known ts
  form_meant known (Form.Index first n t) = is_meant known t
  form_meant known (Form.Quantified word variable extent low high ts) = is_meant known low && (is_meant known high && each_meant known ts)

  pub each_meant : Known → ResolvedTrees → Bool
  each_meant known ResolvedTrees.none = true
  each_meant known (ResolvedTrees.one_more t ts) = is_meant known t && each_meant known ts

  pub arguments_meant : Known → (kinds : List Kind) → ResolvedTrees → Bool
  arguments_meant known kinds ResolvedTrees.none = true
  arguments_meant known kinds (ResolvedTrees.one_more t ts) = not (is_anything (get_or kinds 0 Anything)) && (is_meant known t && arguments_meant known (drop 1 kinds) ts)

-- operators with holes in their second operands, one behind another
abbrev pub links_holed : Setting → Around → List LinkData → List LinkData
links_holed s around [] = []
links_holed s around (l ∷ ls) = record l { second = part_holed s (opened around (l ∷ ls)) l.second } ∷ links_holed s around ls
