use Rattle.std.proofs.Common.{◌≡◌, ◌||◌, take, map, []}
use Rattle.spec_model.specs.Views.{variable_data, formula}
use Rattle.spec_model.specs.GameViews.{hidden_data}
use Rattle.spec_model.specs.Moves.{has_next}
use Rattle.spec_model.specs.Steps.{tables_reading_output, reads_output}
use Rattle.game_values.proofs.late.waits.Given as goal

abbrev pub invariant-loop-line : goal.invariant-loop-line
invariant-loop-line l = l.flags.items ≡ map (λ l'. has_next (formula l'.1) || reads_output (map variable_data l.vars) (tables_reading_output (map variable_data l.vars) [] (map hidden_data l.hidden)) (formula l'.1)) (take l.line-index l.lines)
