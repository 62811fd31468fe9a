use Rattle.std.proofs.Common.{◌≡◌, drop}
use Rattle.game_states.specs.Numbers.{same_values, as_values}
use Rattle.game_states.proofs.places.are_numbers.Given as goal

abbrev pub invariant-loop-i : goal.invariant-loop-i
invariant-loop-i l = same_values (drop l.i l.values) (as_values (drop l.i l.numbers)) ≡ same_values l.values (as_values l.numbers)
