use Rattle.std.proofs.Common.{◌≡◌, map, take}
use Rattle.past_bits.specs.Bits.{tree_of, table_of, bit_data}
use Rattle.past_bits.proofs.operators.Operators.pairs.Given as goal

-- the pairs so far
abbrev pub invariant-loop-o : goal.invariant-loop-o
invariant-loop-o l = map bit_data l.bits.items ≡ map (λ e. (e, table_of (map tree_of l.self) e)) (map tree_of (take l.o-index l.self))
