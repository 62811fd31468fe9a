use Rattle.std.proofs.Common.{◌≡◌, map}
use Rattle.std.specs.List.{range_with_len}
use Rattle.bdd_bits.specs.Orders.{at, level_of, bit_of}
use Rattle.bdd_bits.proofs.moves.write_moved.Given as goal

abbrev pub invariant-loop-level : goal.invariant-loop-level
invariant-loop-level l = l.levels.items ≡ map (λ level. level_of l.order (at l.to (bit_of l.order level))) (range_with_len 0 l.level)
