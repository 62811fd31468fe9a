use Rattle.std.proofs.Common.{◌≡◌, drop}
use Rattle.spec_model.specs.Views.{regular}
use Rattle.spectra_patterns.specs.TriggerParts.{with_repeats}
use Rattle.spectra_patterns.proofs.triggers.repeats.Given as goal

-- what is left is the answer
abbrev pub invariant-loop-t : goal.invariant-loop-t
invariant-loop-t l = with_repeats (regular l.made) (drop l.t-index l.times) ≡ with_repeats (regular l.fn.part) l.times
