use Rattle.std.proofs.Common.{◌≡◌, ◌++◌, drop, map, option_map}
use Rattle.spec_model.specs.GameViews.{game_data}
use Rattle.game_states.specs.Numbers.{number_at}
use Rattle.game_states.specs.Tables.{spread, input_moves_from, moves_from}
use Rattle.game_states.proofs.numbered.Numbered.moves.Given as goal

abbrev pub invariant-loop-i : goal.invariant-loop-i
invariant-loop-i l = map (option_map (λ a. a.items)) l.moves.items ++ spread (λ i. input_moves_from (game_data l.self.game) l.before (number_at (game_data l.self.game) l.place i 0)) l.i (drop l.i l.self.inputs.items) ≡ moves_from (game_data l.self.game) l.before l.place
