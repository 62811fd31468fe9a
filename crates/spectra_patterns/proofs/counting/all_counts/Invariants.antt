use Rattle.std.proofs.Common.{◌≡◌, drop}
use Rattle.std.specs.List.{list_all}
use Rattle.spectra_resolved.specs.declared.tree.Times.{Times}
use Rattle.spectra_patterns.specs.Triggers.{are_counts}
use Rattle.spectra_patterns.proofs.counting.all_counts.Given as goal

-- what is left is the answer
abbrev pub invariant-loop-t : goal.invariant-loop-t
invariant-loop-t l = list_all (λ (t : Times). are_counts t.least t.most) (drop l.t-index l.times) ≡ list_all (λ (t : Times). are_counts t.least t.most) l.times
