use Rattle.std.proofs.Common.{◌≡◌, ◌+◌, ◌++◌, drop}
use Rattle.spec_model.specs.GameViews.{game_data}
use Rattle.game_states.specs.Tables.{spread, answer_at, answers_from}
use Rattle.game_states.proofs.numbered.Numbered.answers.Given as goal

abbrev pub invariant-loop-k : goal.invariant-loop-k
invariant-loop-k l = l.answers.items ++ spread (λ k. answer_at (game_data l.self.game) l.before (l.base + k)) l.k (drop l.k l.self.outputs.items) ≡ answers_from (game_data l.self.game) l.before l.base
