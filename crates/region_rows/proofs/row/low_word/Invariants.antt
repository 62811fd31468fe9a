use Rattle.std.proofs.Common.{◌≡◌, ℕ, ◌<◌, ◌≤◌, false, get_or}
use Rattle.std.specs.Int.{bit_at}
use Rattle.region_rows.specs.Rows.{set_in}
use Rattle.region_rows.proofs.row.low_word.Given as goal

abbrev pub invariant-loop-i : goal.invariant-loop-i
invariant-loop-i l = record {
  below : (m : ℕ) → m < l.i → set_in l.word m ≡ get_or l.bits m false;
  above : (m : ℕ) → l.i ≤ m → bit_at l.word m ≡ 0;
}
