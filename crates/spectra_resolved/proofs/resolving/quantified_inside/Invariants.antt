use Rattle.std.proofs.Common.{◌≡◌, ◌++◌, drop, map}
use Rattle.spectra_resolved.specs.MentionViews.{mention_data}
use Rattle.spectra_resolved.proofs.resolving.quantified_inside.Given as goal

-- those so far and those that are left are all
abbrev pub invariant-loop-variable : goal.invariant-loop-variable
invariant-loop-variable l = map mention_data l.all.items ++ map mention_data (drop l.variable-index l.around) ≡ map mention_data l.around
