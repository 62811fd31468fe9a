use Rattle.std.proofs.Common.{◌≡◌, ◌≤◌, length, drop, map}
use Rattle.game_states.specs.Numbers.{choices}
use Rattle.game_states.proofs.choices.choices_of.Given as goal

abbrev pub invariant-loop-i : goal.invariant-loop-i
invariant-loop-i g l =
    record {
      within : l.i ≤ length l.options;
      made : map (λ c. c.items) l.tails.items ≡ choices (map (λ c. c.items) (drop l.i l.options));
    }

abbrev pub decreases-loop-i : goal.decreases-loop-i
decreases-loop-i g l = l.i
