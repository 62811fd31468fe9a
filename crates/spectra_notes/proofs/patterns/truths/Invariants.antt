use Rattle.std.proofs.Common.{◌≡◌, map, replicate}
use Rattle.spectra_judge.specs.Kinds.{Truth}
use Rattle.spectra_judge.specs.KindViews.{kind_data}
use Rattle.spectra_notes.proofs.patterns.truths.Given as goal

abbrev pub invariant-loop-place : goal.invariant-loop-place
invariant-loop-place l = map kind_data l.kinds.items ≡ replicate l._place Truth
