use Rattle.std.proofs.Common.{◌≡◌, ◌+◌, drop, map}
use Rattle.game_states.specs.Numbers.{place_in}
use Rattle.game_states.proofs.choices.place.Given as goal

abbrev pub invariant-loop-i : goal.invariant-loop-i
invariant-loop-i l = l.i + place_in (map (λ c. c.items) (drop l.i l.all)) l.wanted ≡ place_in (map (λ c. c.items) l.all) l.wanted
