use Rattle.std.proofs.Common.{ℕ, ◌-◌, ◌^◌, ◌<◌, ◌≤◌}
use Rattle.bit_compile.proofs.numbers.width_for.Given as goal

abbrev pub invariant-loop-width : goal.invariant-loop-width
invariant-loop-width l = record {
  narrow : l.width ≤ 64;
  wanted : (b : ℕ) → b < l.width → 2 ^ b < l.count;
}

abbrev pub decreases-loop-width : goal.decreases-loop-width
decreases-loop-width l = 64 - l.width
