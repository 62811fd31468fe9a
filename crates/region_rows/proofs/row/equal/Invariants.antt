use Rattle.std.proofs.Common.{◌≡◌, ℕ, ◌<◌}
use Rattle.std.specs.Prelude.{bit_and}
use Rattle.region_rows.specs.Rows.{word_of, ones_of}
use Rattle.region_rows.proofs.row.equal.Given as goal

abbrev pub invariant-loop-j : goal.invariant-loop-j
invariant-loop-j l = (i : ℕ) → i < l.j → bit_and (word_of l.a i) (ones_of l.count i) ≡ bit_and (word_of l.b i) (ones_of l.count i)
