use Rattle.std.proofs.Common.{arith}
use Rattle.region_rows.proofs.WordLaws.{next_below, next_above}
use Rattle.region_rows.proofs.row.low_word.Goals as goal

pub loop-i-preserved : goal.loop-i-preserved
loop-i-preserved c =
    let bits = c.args.bits.now in
    let i = c.loop-i.i in
    let word = c.loop-i.word in
    let inv = c.loop-i.invariant in
    rw c.with_bit-word.ensures record {
      below = next_below bits word i (omega arith) inv.below inv.above c.truth_at.result c.truth_at.ensures;
      above = next_above bits word i (omega arith) inv.below inv.above c.truth_at.result;
    }
