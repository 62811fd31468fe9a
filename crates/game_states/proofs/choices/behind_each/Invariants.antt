use Rattle.std.proofs.Common.{◌≡◌, ◌∷◌, take, map, flat_map}
use Rattle.game_states.proofs.choices.behind_each.Given as goal

abbrev pub invariant-loop-head : goal.invariant-loop-head
invariant-loop-head g l = map (λ c. c.items) l.all.items ≡ flat_map (λ head. map (λ t. head ∷ t) (map (λ c. c.items) l.tails)) (take l.head-index l.heads)
