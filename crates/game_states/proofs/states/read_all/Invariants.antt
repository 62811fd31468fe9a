use Rattle.std.proofs.Common.{◌≡◌, ◌++◌, [], take, map, flat_map}
use Rattle.spec_model.specs.GameViews.{game_data}
use Rattle.spec_model.specs.Games.{inputs_of, outputs_of}
use Rattle.game_states.specs.Seen.{seen, seen_at, state_with}
use Rattle.game_states.proofs.states.read_all.Given as goal

abbrev pub invariant-loop-k : goal.invariant-loop-k
invariant-loop-k l = map seen l.all.items ≡ [] ++ flat_map (λ n. flat_map (λ x. map (λ y. seen_at (game_data l.game) (state_with n x y)) (outputs_of (game_data l.game))) (inputs_of (game_data l.game))) (map (λ n. n.items) (take l.k l.numbers))
