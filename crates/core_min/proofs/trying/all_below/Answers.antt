use Rattle.std.proofs.Common.{◌≡◌, ◌+◌, arith}
use Rattle.core_min.proofs.Removed.{range_more}
use Rattle.core_min.proofs.trying.all_below.Goals as goal

pub loop-number-preserved : goal.loop-number-preserved
loop-number-preserved c =
    let e : 0 + c.loop-number.number ≡ c.loop-number.number = omega arith in
    rw (c.in_ok-push.ensures.items, c.loop-number.invariant) (rw e at (range_more 0 c.loop-number.number))
