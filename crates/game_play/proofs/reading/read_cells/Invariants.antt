use Rattle.std.proofs.Common.{◌≡◌, ℕ, List, drop, take, map, length, true}
use Rattle.spec_model.specs.Views.{variable_data}
use Rattle.spec_model.specs.GameViews.{hidden_data}
use Rattle.spec_model.specs.Games.{read_tables, nothing_read}
use Rattle.spec_model.specs.Steps.{are_hidden_values}
use Rattle.spec_model.specs.WellMade.{are_tables}
use Rattle.game_play.specs.Sights.{cell_in, read_so_far}
use Rattle.game_play.proofs.reading.read_cells.Given as goal

abbrev pub invariant-loop-k : goal.invariant-loop-k
invariant-loop-k l =
    record {
      room : length l.out ≡ length l.fn.hidden;
      tables : (before : List ℕ) × (are_tables (record { domains = map (λ v. v.domain) (map variable_data l.fn.vars); tables = before }) (map hidden_data (drop l.k l.fn.hidden)) ≡ true);
      numbers : are_hidden_values (map hidden_data (drop l.k l.fn.hidden)) (drop l.k (map cell_in l.fn.numbers)) ≡ true;
      same : read_tables (map variable_data l.fn.vars) (record { input = l.fn.input; output = l.fn.output }) (read_so_far (map hidden_data l.fn.hidden) (take l.k l.out)) (map hidden_data (drop l.k l.fn.hidden)) (drop l.k (map cell_in l.fn.numbers))
          ≡ read_tables (map variable_data l.fn.vars) (record { input = l.fn.input; output = l.fn.output }) nothing_read (map hidden_data l.fn.hidden) (map cell_in l.fn.numbers);
    }
