use Rattle.std.proofs.Common.{◌≡◌, drop, map}
use Rattle.std.specs.List.{list_any}
use Rattle.spec_model.specs.Views.{variable_data, formula}
use Rattle.spec_model.specs.Steps.{reads_output}
use Rattle.game_values.proofs.late.some_atom_reads_out.Given as goal

abbrev pub invariant-loop-e : goal.invariant-loop-e
invariant-loop-e l = list_any (reads_output (map variable_data l.vars) l.tables) (map formula (drop l.e-index l.es)) ≡ list_any (reads_output (map variable_data l.vars) l.tables) (map formula l.es)
