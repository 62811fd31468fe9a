use Rattle.std.proofs.Common.{◌≡◌, ◌∷◌, [], flat_map, bit_or, take}
use Rattle.trigger_dfa.proofs.masks.doubled.Given as goal

abbrev pub invariant-loop-mask : goal.invariant-loop-mask
invariant-loop-mask l = l.both.items ≡ flat_map (λ m. m ∷ bit_or m l.word ∷ []) (take l.mask-index l.masks)
