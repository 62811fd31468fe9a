use Rattle.std.proofs.Common.{◌≡◌, map, take}
use Rattle.spec_model.specs.GameViews.{hidden_data}
use Rattle.game_states.proofs.places.firsts.Given as goal

abbrev pub invariant-loop-h : goal.invariant-loop-h
invariant-loop-h l = l.all.items ≡ map (λ h. h.first) (map hidden_data (take l.h-index l.hidden))
