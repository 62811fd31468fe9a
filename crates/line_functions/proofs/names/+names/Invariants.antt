use Rattle.std.proofs.Common.{◌≡◌, drop}
use Rattle.game_values.specs.Safety.{formulas_in}
use Rattle.line_functions.specs.Asking.{some_names_asked}
use Rattle.line_functions.proofs.names.+names.Given as goal

-- those that are left decide
abbrev pub invariant-some_names-loop-e : goal.invariant-some_names-loop-e
invariant-some_names-loop-e l = some_names_asked l.asked l.at (formulas_in (drop l.e-index l.es)) ≡ some_names_asked l.asked l.at (formulas_in l.es)
