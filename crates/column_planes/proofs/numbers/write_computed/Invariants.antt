use Rattle.std.proofs.Common.{◌≡◌, ℕ, ◌<◌, ◌≤◌, false, length, get_or}
use Rattle.spec_model.specs.declared.value.Value.TheVariants as value
use Rattle.spec_model.specs.Values.{number_of}
use Rattle.column_planes.specs.Numbers.{computed}
use Rattle.column_planes.proofs.numbers.write_computed.Given as goal

abbrev pub invariant-loop-i : goal.invariant-loop-i
invariant-loop-i l =
    record {
      sized : length l.out ≡ length l.fn.out;
      written : (i : ℕ) → i < l.i → get_or l.out i (value.Bool false) ≡ value.Int (computed l.operation (number_of (get_or l.fn.out i (value.Bool false))) (number_of (get_or l.b i (value.Bool false))));
      left : (i : ℕ) → l.i ≤ i → get_or l.out i (value.Bool false) ≡ get_or l.fn.out i (value.Bool false);
    }
