use Rattle.std.proofs.Common.{◌≡◌, ℕ, ◌<◌, ◌≤◌, length, get_or, None}
use Rattle.pattern_rows.specs.Wides.{bit}
use Rattle.pattern_rows.specs.Blocks.{IsMarked}
use Rattle.pattern_rows.proofs.found.mark.Given as goal

-- those before are marked, and those from here on are as they were
abbrev pub invariant-loop-l : goal.invariant-loop-l
invariant-loop-l l =
    record {
      sized : length l.found ≡ length l.fn.found;
      marked : (j : ℕ) → j < l.l → IsMarked (bit l.word j) l.k (get_or l.fn.found j None) (get_or l.found j None);
      after : (j : ℕ) → l.l ≤ j → get_or l.found j None ≡ get_or l.fn.found j None;
    }
