use Rattle.std.proofs.Common.{◌≡◌, ◌+ℤ◌, pos, arith, to_z, of_z, w64}
use Rattle.std.proofs.lemmas.Int.{ints}
use Rattle.bit_compile.proofs.DomainLemmas.{rising_step}
use Rattle.bit_compile.proofs.domains.numbers.Goals as goal

pub loop-i-preserved : goal.loop-i-preserved
loop-i-preserved c =
    let up : to_z w64 (of_z w64 (to_z w64 c.loop-i.z-bits +ℤ pos 1)) ≡ to_z w64 c.loop-i.z-bits +ℤ pos 1 = omega (arith, ints) in
    record {
      at = omega (arith, ints);
      made = rw (c.in_ok-push.ensures.items, up) (rising_step _ _ (to_z w64 c.loop-i.z-bits) c.loop-i.i c.args.count c.loop-i-test.true c.loop-i.invariant.made);
    }
