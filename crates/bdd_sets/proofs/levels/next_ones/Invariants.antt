use Rattle.bdd_sets.specs.Levels.{LeadsOn}
use Rattle.bdd_sets.proofs.levels.next_ones.Given as goal

-- the slots so far
abbrev pub invariant-loop-k : goal.invariant-loop-k
invariant-loop-k l = LeadsOn l.codes l.k l.to.items
