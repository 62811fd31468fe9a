-- What is left of an expression where it is put in: an argument that is faulty as it is written is a hole.
use Rattle.std.specs.Prelude.{Bool, true, false, not, ◌||◌, if◌then◌else◌, List, [], ◌∷◌, Option, Some, None, get_or, drop}
use Rattle.spectra_resolved.specs.declared.spot.Mark.{Mark}
use Rattle.spectra_resolved.specs.declared.stand.Stand.{Stand}
use Rattle.spectra_resolved.specs.declared.tree.Leaf.TheVariants as leaf
use Rattle.spectra_resolved.specs.declared.tree.Hole.TheVariants as hole
use Rattle.spectra_resolved.specs.declared.findings.Finding.{Finding}
use Rattle.spectra_resolved.specs.Spots.{in_text}
use Rattle.spectra_resolved.specs.Resolved.{ResolvedTree, tree, Form, ResolvedTrees}
use Rattle.spectra_judge.specs.Kinds.{Kind, Anything, can_equal}
use Rattle.spectra_judge.specs.Operators.{is_past, is_past_prefix}
use Rattle.spectra_judge.specs.declared.standing.Bans.{Bans}
use Rattle.spectra_judge.specs.Standings.{bans_of}
use Rattle.spectra_judge.specs.declared.around.Around.{Around}
use Rattle.spectra_judge.specs.Around.{nothing_open, under_next, in_bound, within}
use Rattle.spectra_judge.specs.Known.{Known, Setting, wanted}
use Rattle.spectra_judge.specs.Judged.{kind_of, first_of, faults}

-- ---- arguments of which nothing is left

abbrev pub is_some_fault : List Finding → Bool
is_some_fault [] = false
is_some_fault (f ∷ fs) = true

-- What is read under a `next` where it may not be is a fault of that `next`: of the one around an argument, if there is one.
abbrev pub own_bans : (next : Option Mark) → Bans → Bans
own_bans (Some next) bans = record bans { shifted_system = false; shifted_parameter = false }
own_bans None bans = bans

-- whether a fault stands in an argument as it is written
abbrev pub is_faulty : Setting → Around → ResolvedTree → Bool
is_faulty s o t = is_some_fault (faults (record s { bans = own_bans o.next s.bans }) o t)

-- a type without a meaning fits everything
abbrev pub is_anything : Kind → Bool
is_anything Anything = true
is_anything _ = false

-- the type of its parameter has no meaning, it misfits the parameter, or it is faulty
abbrev pub is_lost : Setting → Around → (parameter : Kind) → ResolvedTree → Bool
is_lost s o k t = is_anything k || (not (can_equal k (kind_of s.known t)) || is_faulty s o t)

-- a hole at the first token of what stood there
abbrev pub hole_for : ResolvedTree → ResolvedTree
hole_for t = tree (first_of t) (in_text (first_of t)) (Form.LeafOf (leaf.Hole hole.Anything))

-- ---- the expression with holes

abbrev mutual
  pub part_holed : Setting → Around → ResolvedTree → ResolvedTree
  part_holed s o (tree first at form) = tree first at (form_holed s o at form)

  pub form_holed : Setting → Around → Mark → Form → Form
  form_holed s o at (Form.LeafOf l) = Form.LeafOf l
  form_holed s o at (Form.PredicateOf k ts) = Form.PredicateOf k (arguments_holed s o (wanted s.known (Some k)) ts)
  form_holed s o at (Form.MisuseOf m ts) = Form.MisuseOf m ResolvedTrees.none
  form_holed s o at (Form.Next t) = Form.Next (part_holed s (under_next at o) t)
  form_holed s o at (Form.Prefix word t) = Form.Prefix word (part_holed s (within (is_past_prefix word) at o) t)
  form_holed s o at (Form.Binary word a b) =
      Form.Binary word (part_holed s (within (is_past word) at o) a) (part_holed s (within (is_past word) at o) b)
  form_holed s o at (Form.Mod t number_at n) = Form.Mod (part_holed s o t) number_at n
  form_holed s o at (Form.And ts operators) = Form.And (each_holed s o ts) operators
  form_holed s o at (Form.Or ts operators) = Form.Or (each_holed s o ts) operators
  form_holed s o at (Form.Index first n t) = Form.Index first n (part_holed s o t)
  form_holed s o at (Form.Quantified word variable extent low high ts) =
      Form.Quantified word variable extent (part_holed s (in_bound at o) low) (part_holed s (in_bound at o) high) (each_holed s o ts)

  pub each_holed : Setting → Around → ResolvedTrees → ResolvedTrees
  each_holed s o ResolvedTrees.none = ResolvedTrees.none
  each_holed s o (ResolvedTrees.one_more t ts) = ResolvedTrees.one_more (part_holed s o t) (each_holed s o ts)

  -- arguments for parameters of these kinds
  pub arguments_holed : Setting → Around → (kinds : List Kind) → ResolvedTrees → ResolvedTrees
  arguments_holed s o kinds ResolvedTrees.none = ResolvedTrees.none
  arguments_holed s o kinds (ResolvedTrees.one_more t ts) =
      ResolvedTrees.one_more (if is_lost s o (get_or kinds 0 Anything) t then hole_for t else part_holed s o t) (arguments_holed s o (drop 1 kinds) ts)

-- An expression as it is written, which stands there, with a hole for each faulty argument. A misused name stays without its
-- arguments.
abbrev pub holed : Known → Stand → ResolvedTree → ResolvedTree
holed known stand t = part_holed (record { known = known; bans = bans_of stand }) nothing_open t
