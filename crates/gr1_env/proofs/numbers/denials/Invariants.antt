use Rattle.std.proofs.Common.{◌≡◌, take}
use Rattle.gr1_env.specs.Solved.{greatest, layer_count}
use Rattle.gr1_env.proofs.numbers.denials.Given as goal

-- the most of the layers so far
abbrev pub invariant-loop-layer : goal.invariant-loop-layer
invariant-loop-layer g l = record { most : l.most ≡ greatest layer_count (take l.layer-index l.layers) }
