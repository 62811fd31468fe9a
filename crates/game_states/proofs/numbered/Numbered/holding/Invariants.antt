use Rattle.std.proofs.Common.{◌≡◌, ◌++◌, drop}
use Rattle.spec_model.specs.GameViews.{game_data}
use Rattle.spec_model.specs.Views.{formula}
use Rattle.spec_model.specs.Games.{step_reading}
use Rattle.spec_model.specs.Meaning.{holds_at}
use Rattle.game_states.specs.Tables.{spread, judged}
use Rattle.game_states.proofs.numbered.Numbered.holding.Given as goal

abbrev pub invariant-loop-at : goal.invariant-loop-at
invariant-loop-at l = l.bits.items ++ spread (judged (game_data l.self.game) (λ s. holds_at (step_reading (game_data l.self.game) s s) (formula l.goal.holds) 0)) l.at (drop l.at l.self.seen.items)
    ≡ spread (judged (game_data l.self.game) (λ s. holds_at (step_reading (game_data l.self.game) s s) (formula l.goal.holds) 0)) 0 l.self.seen.items
