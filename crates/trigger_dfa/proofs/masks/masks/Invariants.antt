use Rattle.std.proofs.Common.{◌≡◌, ◌-◌, drop, length}
use Rattle.trigger_dfa.specs.Words.{masks_of}
use Rattle.trigger_dfa.proofs.masks.masks.Given as goal

abbrev pub invariant-loop-k : goal.invariant-loop-k
invariant-loop-k l = l.masks.items ≡ masks_of (drop (length l.meant - l.k) l.meant)
