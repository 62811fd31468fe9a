use Rattle.std.proofs.Common.{◌≡◌, ◌≤◌, ◌==◌, vec_len, filter, take, bit_and}
use Rattle.trigger_dfa.proofs.walk.Walk.open_sets.Given as goal

abbrev pub invariant-loop-word : goal.invariant-loop-word
invariant-loop-word l = (l.sets.items ≡ filter (λ word. bit_and word l.self.lasts == 0) (take l.word-index l.words)) × (vec_len l.sets ≤ l.word-index)
