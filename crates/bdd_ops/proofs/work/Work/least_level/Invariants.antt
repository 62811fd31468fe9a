use Rattle.bdd_ops.specs.Together.{IsLeast}
use Rattle.bdd_ops.proofs.work.Work.least_level.Given as goal

abbrev pub invariant-loop-e : goal.invariant-loop-e
invariant-loop-e l = IsLeast l.self l.row l.levels l.e-index l.least
