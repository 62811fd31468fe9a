use Rattle.spectra_uses.proofs.Walked.{MarksFirst}
use Rattle.spectra_uses.proofs.marks.set_marks.Given as goal

-- those so far are set
abbrev pub invariant-loop-number : goal.invariant-loop-number
invariant-loop-number l = MarksFirst l.fn.marks.items l.marks.items l.list l.mark l.number-index
