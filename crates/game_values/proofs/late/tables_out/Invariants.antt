use Rattle.std.proofs.Common.{◌≡◌, drop, map, []}
use Rattle.spec_model.specs.Views.{variable_data}
use Rattle.spec_model.specs.GameViews.{hidden_data}
use Rattle.spec_model.specs.Steps.{tables_reading_output}
use Rattle.game_values.specs.Whole.{AreWhole}
use Rattle.game_values.proofs.late.tables_out.Given as goal

abbrev pub invariant-loop-h : goal.invariant-loop-h
invariant-loop-h l =
    record {
      whole : AreWhole (drop l.h-index l.hidden);
      same : tables_reading_output (map variable_data l.vars) l.flags.items (map hidden_data (drop l.h-index l.hidden)) ≡ tables_reading_output (map variable_data l.vars) [] (map hidden_data l.hidden);
    }
