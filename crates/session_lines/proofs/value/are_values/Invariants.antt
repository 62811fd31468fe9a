use Rattle.std.proofs.Common.{◌≡◌, map, drop}
use Rattle.spec_model.specs.Values.{is_assignment}
use Rattle.spec_model.specs.Views.{variable_data}
use Rattle.session_lines.specs.Room.{domains}
use Rattle.session_lines.proofs.value.are_values.Given as goal

-- what is left of both decides
abbrev pub invariant-loop-i : goal.invariant-loop-i
invariant-loop-i l = is_assignment (domains (map variable_data (drop l.i l.vars))) (drop l.i l.values) ≡ is_assignment (domains (map variable_data l.vars)) l.values
