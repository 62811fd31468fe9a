use Rattle.std.proofs.Common.{◌≡◌, ℕ, ◌<◌, length, get_or, None}
use Rattle.pattern_rows.proofs.found.clear.Given as goal

abbrev pub invariant-loop-l : goal.invariant-loop-l
invariant-loop-l l =
    record {
      sized : length l.found ≡ length l.fn.found;
      clear : (j : ℕ) → j < l.l → get_or l.found j None ≡ None;
    }
