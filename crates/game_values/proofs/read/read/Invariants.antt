use Rattle.std.proofs.Common.{◌≡◌, ℕ, List, drop, map, true}
use Rattle.spec_model.specs.Views.{variable_data}
use Rattle.spec_model.specs.GameViews.{hidden_data}
use Rattle.spec_model.specs.Games.{read_tables, nothing_read}
use Rattle.spec_model.specs.Steps.{are_hidden_values}
use Rattle.spec_model.specs.WellMade.{are_tables}
use Rattle.game_values.specs.Moments.{values_at}
use Rattle.game_values.specs.Readouts.{readout_data}
use Rattle.game_values.proofs.read.read.Given as goal

abbrev pub invariant-loop-k : goal.invariant-loop-k
invariant-loop-k l =
    record {
      tables : (before : List ℕ) × (are_tables (record { domains = map (λ v. v.domain) (map variable_data l.vars); tables = before }) (map hidden_data (drop l.k l.hidden)) ≡ true);
      numbers : are_hidden_values (map hidden_data (drop l.k l.hidden)) (drop l.k l.numbers) ≡ true;
      values : l.out.moment.values.items ≡ values_at (map variable_data l.vars) (record { input = l.input; output = l.output });
      same : read_tables (map variable_data l.vars) (record { input = l.input; output = l.output }) (readout_data l.out) (map hidden_data (drop l.k l.hidden)) (drop l.k l.numbers)
          ≡ read_tables (map variable_data l.vars) (record { input = l.input; output = l.output }) nothing_read (map hidden_data l.hidden) l.numbers;
    }
