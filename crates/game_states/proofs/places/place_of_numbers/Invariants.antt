use Rattle.std.proofs.Common.{◌≡◌, ◌+◌, drop, map}
use Rattle.game_states.specs.Numbers.{place_in, as_values}
use Rattle.game_states.proofs.places.place_of_numbers.Given as goal

abbrev pub invariant-loop-i : goal.invariant-loop-i
invariant-loop-i l = l.i + place_in (map (λ c. c.items) (drop l.i l.all)) (as_values l.numbers) ≡ place_in (map (λ c. c.items) l.all) (as_values l.numbers)
