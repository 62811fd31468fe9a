use Rattle.std.proofs.Common.{◌≡◌, ◌++◌, take, map, flat_map}
use Rattle.spec_model.specs.GameViews.{game_data}
use Rattle.spec_model.specs.Games.{outputs_of}
use Rattle.game_states.specs.Seen.{seen, seen_at, state_with}
use Rattle.game_states.proofs.states.add_inputs.Given as goal

abbrev pub invariant-loop-k : goal.invariant-loop-k
invariant-loop-k l = map seen l.out.items ≡ map seen l.fn.out.items ++ flat_map (λ x. map (λ y. seen_at (game_data l.game) (state_with l.numbers x y)) (outputs_of (game_data l.game))) (map (λ x. x.items) (take l.k l.inputs))
