use Rattle.std.proofs.Common.{◌≡◌, ℕ, ◌+◌, ◌*◌, ◌<◌, false, length, get_or}
use Rattle.region_rows.specs.Rows.{set_in}
use Rattle.region_rows.proofs.row.packed.Given as goal

abbrev pub invariant-loop-j : goal.invariant-loop-j
invariant-loop-j l = record {
  count : length l.words.items ≡ l.j;
  bits : (j i : ℕ) → j < l.j → i < 64 → set_in (get_or l.words.items j 0) i ≡ get_or l.bits (j * 64 + i) false;
}
