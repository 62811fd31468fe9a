use Rattle.std.proofs.Common.{◌≡◌, ◌++◌, drop}
use Rattle.bdd_bits.specs.Orders.{levels_of}
use Rattle.bdd_bits.proofs.calls.write_levels.Given as goal

-- those so far and those of what is left are all
abbrev pub invariant-loop-bit : goal.invariant-loop-bit
invariant-loop-bit l = l.levels.items ++ levels_of l.order (drop l.bit-index l.bits) ≡ levels_of l.order l.bits
