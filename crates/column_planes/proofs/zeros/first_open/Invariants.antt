use Rattle.std.proofs.Common.{◌*◌}
use Rattle.column_planes.specs.Planes.{IsFullUpTo}
use Rattle.column_planes.proofs.zeros.first_open.Given as goal

abbrev pub invariant-loop-k : goal.invariant-loop-k
invariant-loop-k l = IsFullUpTo l.a (8 * l.k)
