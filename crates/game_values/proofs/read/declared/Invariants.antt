use Rattle.std.proofs.Common.{◌≡◌, map}
use Rattle.spec_model.specs.Views.{variable_data}
use Rattle.spec_model.specs.Moves.{value_among}
use Rattle.spec_model.specs.Steps.{below}
use Rattle.game_values.proofs.read.declared.Given as goal

abbrev pub invariant-loop-k : goal.invariant-loop-k
invariant-loop-k l = l.all.items ≡ map (λ k. value_among (map variable_data l.vars) (record { input = l.input; output = l.output }) k) (below l.k)
