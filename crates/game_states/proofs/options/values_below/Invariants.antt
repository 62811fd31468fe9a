use Rattle.std.proofs.Common.{◌≡◌}
use Rattle.game_states.specs.Options.{numbered_values}
use Rattle.game_states.proofs.options.values_below.Given as goal

abbrev pub invariant-loop-i : goal.invariant-loop-i
invariant-loop-i l = l.all.items ≡ numbered_values l.i
