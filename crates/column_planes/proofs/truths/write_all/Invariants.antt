use Rattle.std.proofs.Common.{◌≡◌, ℕ, ◌<◌, length, get_or}
use Rattle.column_planes.proofs.truths.write_all.Given as goal

abbrev pub invariant-loop-k : goal.invariant-loop-k
invariant-loop-k l =
    record {
      sized : length l.out ≡ length l.fn.out;
      written : (j : ℕ) → j < l.k → get_or l.out j 0 ≡ l.word;
    }
