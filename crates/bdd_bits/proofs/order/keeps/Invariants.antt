use Rattle.bdd_bits.specs.Keeping.{KeepsBefore}
use Rattle.bdd_bits.proofs.order.keeps.Given as goal

abbrev pub invariant-loop-level : goal.invariant-loop-level
invariant-loop-level l = KeepsBefore l.order l.to l.level l.least
