use Rattle.std.proofs.Common.{◌≡◌, ◌+◌, sum, take}
use Rattle.gr1_sys.specs.Held.{ranks_of}
use Rattle.gr1_sys.proofs.layers.SysLayers.k.Given as goal

-- one more than the layers of the goals so far
abbrev pub invariant-loop-layers : goal.invariant-loop-layers
invariant-loop-layers g l = l.k ≡ 1 + sum (ranks_of (take l.layers-index l.layers-items))
