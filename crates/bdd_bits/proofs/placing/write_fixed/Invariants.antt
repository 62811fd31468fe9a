use Rattle.std.proofs.Common.{◌≡◌, ◌<◌, ℕ, None, length, slice_index_or}
use Rattle.bdd_bits.specs.Orders.{bit_of}
use Rattle.bdd_bits.proofs.placing.write_fixed.Given as goal

abbrev pub invariant-loop-level : goal.invariant-loop-level
invariant-loop-level l =
    record {
      long : length l.by_level ≡ length l.fn.by_level;
      written : (j : ℕ) → j < l.level → slice_index_or l.by_level j None ≡ slice_index_or l.fixed (bit_of l.order j) None;
    }
