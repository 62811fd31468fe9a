use Rattle.std.proofs.Common.{◌≡◌, ◌++◌, replicate}
use Rattle.spectra_notes.proofs.kinds.add_marks.Given as goal

-- so many elements have their mark
abbrev pub invariant-loop-element : goal.invariant-loop-element
invariant-loop-element l = l.all.items ≡ l.fn.all.items ++ replicate l._element l.mark
