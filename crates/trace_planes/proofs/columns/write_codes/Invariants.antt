use Rattle.std.proofs.Common.{◌≡◌, ℕ, ◌<◌, ◌≤◌, length, map, take, count_by}
use Rattle.spec_model.specs.Views.{variable_data}
use Rattle.spec_model.specs.Moves.{is_env, value_among}
use Rattle.column_planes.specs.Columns.{value_in}
use Rattle.trace_planes.specs.Rows.{KeepsOthers}
use Rattle.trace_planes.proofs.columns.write_codes.Given as goal

abbrev pub invariant-loop-k : goal.invariant-loop-k
invariant-loop-k l =
    record {
      sized : length l.codes ≡ length l.fn.codes;
      inputs : l.ins ≡ count_by (λ v. is_env v.owner) (map variable_data (take l.k l.vars));
      few : l.ins ≤ l.k;
      written : (k : ℕ) → k < l.k → value_in (map variable_data l.vars) l.codes k l.i ≡ value_among (map variable_data l.vars) (record { input = l.input; output = l.output }) k;
      others : KeepsOthers l.i l.fn.codes l.codes;
    }
