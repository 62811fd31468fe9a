use Rattle.std.proofs.Common.{◌≡◌}
use Rattle.core_min.specs.Sets.{below}
use Rattle.core_min.proofs.trying.all_below.Given as goal

abbrev pub invariant-loop-number : goal.invariant-loop-number
invariant-loop-number l = l.set.items ≡ below l.number
