use Rattle.std.proofs.Common.{◌≡◌, ◌≤◌, map, drop, bit_and, vec_len}
use Rattle.trigger_dfa.specs.Words.{with_new}
use Rattle.trigger_dfa.proofs.walk.Walk.meet.Given as goal

abbrev pub invariant-loop-mask : goal.invariant-loop-mask
invariant-loop-mask l =
    (with_new l.words.items (map (bit_and l.after) (drop l.mask-index l.self.masks.items)) ≡ with_new l.initial.words.items (map (bit_and l.after) l.self.masks.items))
    × (vec_len l.initial.words ≤ l.limit → vec_len l.words ≤ l.limit)
