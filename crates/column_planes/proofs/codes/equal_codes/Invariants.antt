use Rattle.std.proofs.Common.{◌≡◌, ◌==◌, ℕ, ◌<◌, ◌*◌, length, map, take, drop, slice_index}
use Rattle.std.specs.Simd.Lanes.{mask_l}
use Rattle.column_planes.proofs.codes.equal_codes.Given as goal

abbrev pub invariant-loop-k : goal.invariant-loop-k
invariant-loop-k l =
    record {
      lengths : length l.out ≡ length l.fn.out;
      words : (j : ℕ) → j < l.k → slice_index l.out j ≡ mask_l (map (λ c. c == l.value) (take 64 (drop (64 * j) l.codes)));
    }
