use Rattle.std.proofs.Common.{◌≡◌, ℕ, ◌<◌, false, length, get_or}
use Rattle.spec_model.specs.declared.value.Value.TheVariants as value
use Rattle.column_planes.proofs.numbers.write_same.Given as goal

abbrev pub invariant-loop-i : goal.invariant-loop-i
invariant-loop-i l =
    record {
      sized : length l.out ≡ length l.fn.out;
      written : (i : ℕ) → i < l.i → get_or l.out i (value.Bool false) ≡ l.value;
    }
