use Rattle.column_planes.specs.Planes.{IsFullUpTo}
use Rattle.column_planes.proofs.zeros.full_rest.Given as goal

abbrev pub invariant-loop-k : goal.invariant-loop-k
invariant-loop-k l = IsFullUpTo l.a l.k
