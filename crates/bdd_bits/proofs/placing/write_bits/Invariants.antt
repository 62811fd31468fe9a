use Rattle.std.proofs.Common.{◌≡◌, ◌<◌, ℕ, false, length, slice_index_or}
use Rattle.bdd_bits.specs.Orders.{level_of}
use Rattle.bdd_bits.proofs.placing.write_bits.Given as goal

abbrev pub invariant-loop-bit : goal.invariant-loop-bit
invariant-loop-bit l =
    record {
      long : length l.bits ≡ length l.fn.bits;
      written : (j : ℕ) → j < l.bit → slice_index_or l.bits j false ≡ slice_index_or l.by_level (level_of l.order j) false;
    }
