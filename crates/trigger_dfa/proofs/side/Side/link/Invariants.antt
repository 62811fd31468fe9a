use Rattle.std.proofs.Common.{◌≡◌, ℕ, cond, nat_lt, bit_or, slice_index, vec_len}
use Rattle.trigger_dfa.specs.Words.{in_word}
use Rattle.trigger_dfa.proofs.side.Side.link.Given as goal

abbrev pub invariant-loop-q : goal.invariant-loop-q
invariant-loop-q l =
    ((k : ℕ) → slice_index l.self.follow.items k ≡ cond (nat_lt k l.q) (bit_or (slice_index l.initial.self.follow.items k) (cond (in_word l.from k) l.to 0)) (slice_index l.initial.self.follow.items k))
    × (l.self.meant ≡ l.initial.self.meant)
    × (vec_len l.self.follow ≡ vec_len l.initial.self.follow)
