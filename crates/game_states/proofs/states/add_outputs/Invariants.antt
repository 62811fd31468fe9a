use Rattle.std.proofs.Common.{◌≡◌, ◌++◌, take, map}
use Rattle.spec_model.specs.GameViews.{game_data}
use Rattle.game_states.specs.Seen.{seen, seen_at, state_with}
use Rattle.game_states.proofs.states.add_outputs.Given as goal

abbrev pub invariant-loop-k : goal.invariant-loop-k
invariant-loop-k l = map seen l.out.items ≡ map seen l.fn.out.items ++ map (λ y. seen_at (game_data l.game) (state_with l.numbers l.input y)) (map (λ y. y.items) (take l.k l.outputs))
