use Rattle.std.proofs.Common.{◌≡◌, ◌==◌, ◌-◌, length, map, drop}
use Rattle.std.specs.Simd.Lanes.{mask_l}
use Rattle.column_planes.proofs.codes.word_of.Given as goal

-- the last codes are in the word
abbrev pub invariant-loop-i : goal.invariant-loop-i
invariant-loop-i l = l.word ≡ mask_l (map (λ c. c == l.value) (drop (length l.codes - l.i) l.codes))
