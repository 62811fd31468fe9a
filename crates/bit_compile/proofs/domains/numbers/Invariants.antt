use Rattle.std.proofs.Common.{◌≡◌, ◌++◌, ◌-◌, ◌+ℤ◌, pos}
use Rattle.spec_model.specs.Values.{rising_from}
use Rattle.bit_compile.proofs.domains.numbers.Given as goal

abbrev pub invariant-loop-i : goal.invariant-loop-i
invariant-loop-i l =
    record {
      at : l.z ≡ l.lo +ℤ pos l.i;
      made : l.values.items ++ rising_from l.z (l.count - l.i) ≡ rising_from l.lo l.count;
    }
