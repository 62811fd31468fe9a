use Rattle.std.proofs.Common.{◌≡◌, ℕ, ◌||◌, drop}
use Rattle.trigger_dfa.specs.Words.{in_word, joined}
use Rattle.trigger_dfa.proofs.masks.join.Given as goal

abbrev pub invariant-loop-k : goal.invariant-loop-k
invariant-loop-k l = (p : ℕ) → (in_word l.all p || joined l.k (drop l.k l.words) l.set p) ≡ joined 0 l.words l.set p
