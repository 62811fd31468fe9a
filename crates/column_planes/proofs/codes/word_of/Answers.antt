use Rattle.std.proofs.Common.{◌==◌, arith}
use Rattle.column_planes.proofs.EqualCodes.{small_last, byte_small}
use Rattle.column_planes.proofs.codes.word_of.Goals as goal

pub overflow_mul-word : goal.overflow_mul-word
overflow_mul-word c = let few = small_last (λ code. code == c.args.value) c.args.codes.now c.loop-i.i c.loop-i.word c.loop-i-test.true c.requires c.loop-i.invariant in record { fits = omega (arith, few) }

pub overflow_add-word : goal.overflow_add-word
overflow_add-word c =
    let few = small_last (λ code. code == c.args.value) c.args.codes.now c.loop-i.i c.loop-i.word c.loop-i-test.true c.requires c.loop-i.invariant in
    let one = byte_small c.from.result _ c.from.ensures in
    record { fits = omega (arith, few, one) }
