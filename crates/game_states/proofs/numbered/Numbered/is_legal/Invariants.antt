use Rattle.std.proofs.Common.{◌≡◌, ◌+◌, drop}
use Rattle.std.specs.List.{list_all}
use Rattle.spec_model.specs.GameViews.{game_data}
use Rattle.spec_model.specs.Steps.{assumptions_hold}
use Rattle.game_states.specs.Tables.{before_of, judged, spread, is_legal_from}
use Rattle.game_states.proofs.numbered.Numbered.is_legal.Given as goal

abbrev pub invariant-loop-k : goal.invariant-loop-k
invariant-loop-k l = list_all (λ b. b) (spread (λ k. judged (game_data l.self.game) (assumptions_hold (game_data l.self.game) (before_of (game_data l.self.game) l.before)) (l.base + k)) l.k (drop l.k l.self.outputs.items)) ≡ is_legal_from (game_data l.self.game) l.before l.base
