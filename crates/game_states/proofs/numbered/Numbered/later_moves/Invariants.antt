use Rattle.std.proofs.Common.{◌≡◌, ◌++◌, drop, map, option_map, slice_get}
use Rattle.spec_model.specs.GameViews.{game_data}
use Rattle.spec_model.specs.Steps.{states_of}
use Rattle.game_states.specs.Tables.{spread, moves_of}
use Rattle.game_states.proofs.numbered.Numbered.later_moves.Given as goal

abbrev pub invariant-loop-from : goal.invariant-loop-from
invariant-loop-from l = map (λ v. map (option_map (λ a. a.items)) v.items) l.all.items ++ spread (λ k. moves_of (game_data l.self.game) (slice_get (states_of (game_data l.self.game)) k)) l.from (drop l.from l.self.seen.items)
    ≡ spread (λ k. moves_of (game_data l.self.game) (slice_get (states_of (game_data l.self.game)) k)) 0 l.self.seen.items
