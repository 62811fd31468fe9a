use Rattle.std.proofs.Common.{◌≡◌, drop, map}
use Rattle.spec_model.specs.Views.{variable_data}
use Rattle.spec_model.specs.Steps.{some_reads_output}
use Rattle.game_values.specs.Safety.{formulas_in}
use Rattle.game_values.proofs.late.+outputs.Given as goal

abbrev pub invariant-some_reads_out-loop-e : goal.invariant-some_reads_out-loop-e
invariant-some_reads_out-loop-e l = some_reads_output (map variable_data l.vars) l.tables (formulas_in (drop l.e-index l.es)) ≡ some_reads_output (map variable_data l.vars) l.tables (formulas_in l.es)
