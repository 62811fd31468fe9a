use Rattle.std.proofs.Common.{◌≡◌, drop}
use Rattle.spec_model.specs.Moves.{some_has_next}
use Rattle.game_values.specs.Safety.{formulas_in}
use Rattle.game_values.proofs.late.+nexts.Given as goal

abbrev pub invariant-some_reads_next-loop-e : goal.invariant-some_reads_next-loop-e
invariant-some_reads_next-loop-e l = some_has_next (formulas_in (drop l.e-index l.es)) ≡ some_has_next (formulas_in l.es)
