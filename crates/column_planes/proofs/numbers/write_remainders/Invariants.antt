use Rattle.std.proofs.Common.{◌≡◌, ℕ, ◌<◌, ◌≤◌, false, length, get_or}
use Rattle.std.specs.Int.{int_rem_euclid}
use Rattle.spec_model.specs.declared.value.Value.TheVariants as value
use Rattle.spec_model.specs.Values.{number_of}
use Rattle.column_planes.proofs.numbers.write_remainders.Given as goal

abbrev pub invariant-loop-i : goal.invariant-loop-i
invariant-loop-i l =
    record {
      sized : length l.out ≡ length l.fn.out;
      written : (i : ℕ) → i < l.i → get_or l.out i (value.Bool false) ≡ value.Int (int_rem_euclid (number_of (get_or l.fn.out i (value.Bool false))) l.n);
      left : (i : ℕ) → l.i ≤ i → get_or l.out i (value.Bool false) ≡ get_or l.fn.out i (value.Bool false);
    }
