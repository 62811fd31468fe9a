use Rattle.std.proofs.Common.{◌≢◌, ℕ, ◌-◌, ◌<◌, ◌≤◌, length, slice_index}
use Rattle.session_lines.proofs.reader.feed_in.Given as goal

-- no line feed stands before `at`
abbrev pub invariant-loop-at : goal.invariant-loop-at
invariant-loop-at l = record {
  within : l.at ≤ length l.bytes;
  none_before : (k : ℕ) → k < l.at → slice_index l.bytes k ≢ 10;
}

abbrev pub decreases-loop-at : goal.decreases-loop-at
decreases-loop-at l = length l.bytes - l.at
