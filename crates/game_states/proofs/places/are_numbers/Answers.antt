use Rattle.std.proofs.Common.{sym, ◌∙◌}
use Rattle.game_states.specs.Numbers.{as_values}
use Rattle.game_states.proofs.ChoicePlaces.{same_values-long, length-values}
use Rattle.game_states.proofs.places.are_numbers.Goals as goal

pub returns-then-values-numbers : goal.returns-then-values-numbers
returns-then-values-numbers c = sym (same_values-long c.args.values.now (as_values c.args.numbers.now) (λ e. c.if-values-numbers.true (e ∙ length-values c.args.numbers.now)))
