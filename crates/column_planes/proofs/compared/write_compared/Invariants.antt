use Rattle.std.proofs.Common.{◌≡◌, ℕ, ◌+◌, ◌<◌, false, if◌then◌else◌, length, get_or}
use Rattle.spec_model.specs.declared.value.Value.TheVariants as value
use Rattle.spec_model.specs.Meaning.{compare_values}
use Rattle.column_planes.proofs.compared.write_compared.Given as goal

abbrev pub invariant-loop-i : goal.invariant-loop-i
invariant-loop-i l =
    record {
      sized : length l.codes ≡ length l.fn.codes;
      before : (j : ℕ) → j < l.from → get_or l.codes j 0 ≡ get_or l.fn.codes j 0;
      there : (i : ℕ) → i < l.i → get_or l.codes (l.from + i) 0 ≡ (if compare_values l.how (get_or l.a i (value.Bool false)) (get_or l.b i (value.Bool false)) then 1 else 0);
    }
