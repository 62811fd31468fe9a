use Rattle.bdd_sets.specs.Levels.{HasNextBits, is_elsewhere}
use Rattle.bdd_sets.proofs.levels.next_bits.Given as goal

-- the slots so far
abbrev pub invariant-loop-k : goal.invariant-loop-k
invariant-loop-k l = HasNextBits l.codes (is_elsewhere l.first l.past) l.k l.levels.items
