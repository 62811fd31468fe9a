-- A test of all places of an expression, and what stands behind what was found.
use Rattle.std.specs.Prelude.{Bool, true, false, ◌&&◌, Option, Some, None}
use Rattle.std.specs.List.{list_all}
use Rattle.spectra_resolved.specs.declared.spot.Spot.{Spot}
use Rattle.spectra_resolved.specs.declared.findings.Finding.{Finding}
use Rattle.spectra_resolved.specs.Resolved.{ResolvedTree, tree, Form, ResolvedTrees}
use Rattle.spectra_resolved.specs.Chained.{LinkData}
use Rattle.spectra_judge.specs.Around.{comes_before}

-- whether the test holds of each place
abbrev mutual
  pub all_places : (good : Spot → Bool) → ResolvedTree → Bool
  all_places good (tree first at form) = (good first && good at.spot) && form_places good form

  pub form_places : (good : Spot → Bool) → Form → Bool
  form_places good (Form.LeafOf l) = true
  form_places good (Form.PredicateOf k ts) = each_places good ts
  form_places good (Form.MisuseOf m ts) = each_places good ts
  form_places good (Form.Next t) = all_places good t
  form_places good (Form.Prefix word t) = all_places good t
  form_places good (Form.Binary word a b) = all_places good a && all_places good b
  form_places good (Form.Mod t number_at n) = all_places good t && good number_at
  form_places good (Form.And ts operators) = each_places good ts && list_all good operators
  form_places good (Form.Or ts operators) = each_places good ts && list_all good operators
  form_places good (Form.Index first n t) = all_places good t
  form_places good (Form.Quantified word variable extent low high ts) = all_places good low && (all_places good high && each_places good ts)

  pub each_places : (good : Spot → Bool) → ResolvedTrees → Bool
  each_places good ResolvedTrees.none = true
  each_places good (ResolvedTrees.one_more t ts) = all_places good t && each_places good ts

-- of an operator with its second operand
abbrev pub link_places : (good : Spot → Bool) → LinkData → Bool
link_places good l = (good l.first && good l.at.spot) && all_places good l.second

-- whether the first fault that was found stands before all of an expression
abbrev pub is_behind : Option Finding → ResolvedTree → Bool
is_behind (Some first) t = all_places (comes_before first.at) t
is_behind None t = false
