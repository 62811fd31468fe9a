use Rattle.std.proofs.Common.{◌≡◌, ◌++◌, drop, map}
use Rattle.bdd_bits.specs.Orders.{bit_of}
use Rattle.bdd_bits.proofs.placing.add_bits.Given as goal

-- those so far and those of what is left are all
abbrev pub invariant-loop-level : goal.invariant-loop-level
invariant-loop-level l = l.bits.items ++ map (bit_of l.order) (drop l.level-index l.levels) ≡ l.fn.bits.items ++ map (bit_of l.order) l.levels
