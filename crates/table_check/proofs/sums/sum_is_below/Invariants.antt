use Rattle.std.proofs.Common.{◌≡◌, nat_lt, sum, drop}
use Rattle.table_check.proofs.sums.sum_is_below.Given as goal

abbrev pub invariant-loop-s : goal.invariant-loop-s
invariant-loop-s l = nat_lt (sum (drop l.s-index l.sums)) l.left ≡ nat_lt (sum l.sums) l.limit
