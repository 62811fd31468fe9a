use Rattle.std.proofs.Common.{◌≡◌, ℕ, ◌<◌, false, if◌then◌else◌, length, map, get_or}
use Rattle.column_planes.proofs.entries.write_entries.Given as goal

abbrev pub invariant-loop-j : goal.invariant-loop-j
invariant-loop-j l =
    record {
      sized : length l.codes ≡ length l.fn.codes;
      written : (j : ℕ) → j < l.j → get_or l.codes j 0 ≡ (if get_or (map (λ table. get_or table (get_or l.cells j 0) false) (map (λ t. t.items) l.tables)) l.part false then 1 else 0);
    }
