use Rattle.std.proofs.Common.{◌≡◌, ◌∷◌, ◌++◌, take, map}
use Rattle.pattern_rows.proofs.choices.add_behind.Given as goal

abbrev pub invariant-loop-tail : goal.invariant-loop-tail
invariant-loop-tail l = map (λ c. c.items) l.out.items ≡ map (λ c. c.items) l.fn.out.items ++ map (λ t. l.head ∷ t) (map (λ c. c.items) (take l.tail-index l.tails))
