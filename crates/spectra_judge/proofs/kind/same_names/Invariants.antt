use Rattle.std.proofs.Common.{◌≡◌, drop}
use Rattle.spec_model.specs.Typing.{same_names}
use Rattle.spectra_judge.proofs.kind.same_names.Given as goal

-- what is left is the answer
abbrev pub invariant-loop-i : goal.invariant-loop-i
invariant-loop-i l = same_names (drop l.i l.names) (drop l.i l.others) ≡ same_names l.names l.others
