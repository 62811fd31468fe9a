use Rattle.std.proofs.Common.{◌≤◌, ◌^◌, sym, arith}
use Rattle.std.proofs.Math.Pow.{pow_mono}
use Rattle.std.proofs.Math.Facts.{Fits-lt-pow}
use Rattle.bit_compile.proofs.WidthLemmas.{bits_for-is}
use Rattle.bit_compile.proofs.numbers.width_for.Goals as goal

pub returns-else-power-count-clause-width : goal.returns-else-power-count-clause-width
returns-else-power-count-clause-width c = let enough : c.args.count ≤ 2 ^ c.loop-width.width = omega (arith, c.if-power-count.false, c.power.ensures) in sym (bits_for-is c.args.count c.loop-width.width c.loop-width.invariant.wanted enough)

pub returns-after-loop-width-clause-width : goal.returns-after-loop-width-clause-width
returns-after-loop-width-clause-width c =
    let more : 2 ^ 64 ≤ 2 ^ c.loop-width.width = pow_mono c.loop-width-test.false in
    let fits = Fits-lt-pow c.ranges.count in
    sym (bits_for-is c.args.count c.loop-width.width c.loop-width.invariant.wanted (omega (arith, more, fits)))
