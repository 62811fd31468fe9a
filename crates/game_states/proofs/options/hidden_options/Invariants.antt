use Rattle.std.proofs.Common.{◌≡◌, map, take}
use Rattle.spec_model.specs.GameViews.{hidden_data}
use Rattle.game_states.specs.Options.{numbered_values}
use Rattle.game_states.proofs.options.hidden_options.Given as goal

abbrev pub invariant-loop-h : goal.invariant-loop-h
invariant-loop-h l = map (λ c. c.items) l.all.items ≡ map (λ h. numbered_values h.values) (map hidden_data (take l.h-index l.hidden))
