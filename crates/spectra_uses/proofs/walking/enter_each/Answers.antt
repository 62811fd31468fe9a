use Rattle.std.proofs.Common.{[], ◌∷◌, get_or, arith}
use Rattle.spectra_uses.proofs.Reaching.{at_place}
use Rattle.spectra_uses.proofs.Walked.{enters_not, enters_on, one_among, one_more_known}
use Rattle.spectra_uses.proofs.walking.enter_each.Goals as goal

pub loop-number-init : goal.loop-number-init
loop-number-init c = record { enters = enters_not c.args.marks.now.items c.args.reached.now.items c.args.list.now; known = λ i v below at. absurd (omega arith) }

pub loop-number-preserved : goal.loop-number-preserved
loop-number-preserved c =
    let list = c.args.list.now in
    let k = c.loop-number.number-index in
    let at = at_place list k (omega arith) in
    let before = c.loop-number.invariant in
    record {
      enters = enters_on c.args.marks.now.items c.loop-number.marks.items c.enter.new.marks.items c.args.reached.now.items c.loop-number.reached.items c.enter.new.reached.items list (get_or list k 0 ∷ [])
          (one_among list k (get_or list k 0) at) before.enters c.in_ok-enter.ensures.enters;
      known = one_more_known c.loop-number.marks.items c.enter.new.marks.items list k (get_or list k 0) at c.in_ok-enter.ensures.enters.was c.in_ok-enter.ensures.known before.known;
    }
