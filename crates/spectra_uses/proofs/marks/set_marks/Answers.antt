use Rattle.std.proofs.Common.{◌+◌, get_or, sym, subst, arith}
use Rattle.spectra_uses.proofs.Reaching.{at_place}
use Rattle.spectra_uses.proofs.Walked.{MarksFirst, marks_none, marks_on, marks_all}
use Rattle.spectra_uses.proofs.marks.set_marks.Goals as goal

pub loop-number-init : goal.loop-number-init
loop-number-init c = marks_none c.args.marks.now.items c.args.list.now c.args.mark

pub loop-number-preserved : goal.loop-number-preserved
loop-number-preserved c =
    let old = c.args.marks.now.items in
    let list = c.args.list.now in
    let k = c.loop-number.number-index in
    subst (λ ms. MarksFirst old ms list c.args.mark (k + 1)) (sym c.set_mark.ensures)
    (marks_on old c.loop-number.marks.items list c.args.mark k (get_or list k 0) (at_place list k (omega arith)) c.loop-number.invariant)

pub returns : goal.returns
returns c = marks_all c.args.marks.now.items c.loop-number.marks.items c.args.list.now c.args.mark c.loop-number.number-index c.loop-number.invariant (omega arith)
