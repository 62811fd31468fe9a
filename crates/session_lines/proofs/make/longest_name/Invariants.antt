use Rattle.std.proofs.Common.{ℕ, ◌<◌, ◌≤◌, [], map, length, get_or, string_bytes}
use Rattle.session_lines.proofs.make.longest_name.Given as goal

-- no text so far is longer
abbrev pub invariant-loop-n : goal.invariant-loop-n
invariant-loop-n l = (k : ℕ) → k < l.n-index → length (get_or (map string_bytes l.names) (get_or l.domain k 0) []) ≤ l.longest
