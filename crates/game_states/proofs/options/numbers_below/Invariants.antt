use Rattle.std.proofs.Common.{◌≡◌}
use Rattle.spec_model.specs.Steps.{below}
use Rattle.game_states.proofs.options.numbers_below.Given as goal

abbrev pub invariant-loop-i : goal.invariant-loop-i
invariant-loop-i l = l.all.items ≡ below l.i
