use Rattle.std.proofs.Common.{sym}
use Rattle.game_states.proofs.ChoicePlaces.{same_values-long}
use Rattle.game_states.proofs.choices.are_same.Goals as goal

pub returns-then-a-b : goal.returns-then-a-b
returns-then-a-b c = sym (same_values-long c.args.a.now c.args.b.now c.if-a-b.true)
