use Rattle.std.proofs.Common.{◌≡◌, ◌*◌, ◌≤◌, drop, map, true, min, length, nat_lt}
use Rattle.std.specs.List.{list_all}
use Rattle.spec_model.specs.GameViews.{hidden_data}
use Rattle.spec_model.specs.Steps.{hidden_values}
use Rattle.game_states.proofs.options.count_hidden.Given as goal

abbrev pub invariant-loop-h : goal.invariant-loop-h
invariant-loop-h l =
    record {
      made : list_all (λ h. nat_lt 0 h.values) (map hidden_data (drop l.h-index l.hidden)) ≡ true;
      small : l.total ≤ 1025;
      same : min 1025 (l.total * length (hidden_values (map hidden_data (drop l.h-index l.hidden)))) ≡ min 1025 (l.fn.start * length (hidden_values (map hidden_data l.hidden)));
    }
