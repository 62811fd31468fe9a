use Rattle.std.proofs.Common.{◌≡◌, ◌+◌, drop}
use Rattle.trigger_dfa.specs.Rows.{place_in}
use Rattle.trigger_dfa.proofs.rows.place_of.Given as goal

-- none of those that were looked at is the word
abbrev pub invariant-loop-k : goal.invariant-loop-k
invariant-loop-k l = l.k + place_in (drop l.k l.words) l.word ≡ place_in l.words l.word
