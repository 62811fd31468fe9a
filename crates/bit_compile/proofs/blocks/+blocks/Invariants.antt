use Rattle.std.proofs.Common.{◌+◌, ◌*◌, max, length}
use Rattle.bit_compile.proofs.blocks.+blocks.Given as goal

-- blocks become smaller
abbrev pub decreases-block : goal.decreases-block
decreases-block l = 3 * (length l.xs.now + length l.ys.now)

abbrev pub decreases-or_block : goal.decreases-or_block
decreases-or_block l = 3 * (length l.xs.now + length l.ys.now) + 1

abbrev pub decreases-either_block : goal.decreases-either_block
decreases-either_block l = 3 * max (length l.one.0.now + length l.one.1.now) (length l.other.0.now + length l.other.1.now) + 2
