use Rattle.std.proofs.Common.{◌≡◌, ℕ, ◌<◌, false, length, get_or}
use Rattle.spec_model.specs.declared.value.Value.TheVariants as value
use Rattle.spec_model.specs.Views.{domain_data}
use Rattle.column_planes.specs.Columns.{value_of_code}
use Rattle.column_planes.proofs.numbers.write_values.Given as goal

abbrev pub invariant-loop-i : goal.invariant-loop-i
invariant-loop-i l =
    record {
      sized : length l.out ≡ length l.fn.out;
      written : (i : ℕ) → i < l.i → get_or l.out i (value.Bool false) ≡ value_of_code (domain_data l.domain) (get_or l.codes i 0);
    }
