use Rattle.std.proofs.Common.{◌≡◌, ◌∷◌, ◌++◌, drop, map, flat_map}
use Rattle.pattern_rows.proofs.choices.behind_each.Given as goal

abbrev pub invariant-loop-head : goal.invariant-loop-head
invariant-loop-head l = map (λ c. c.items) l.all.items ++ flat_map (λ head. map (λ t. head ∷ t) (map (λ c. c.items) l.tails)) (drop l.head-index l.heads) ≡ flat_map (λ head. map (λ t. head ∷ t) (map (λ c. c.items) l.tails)) l.heads
