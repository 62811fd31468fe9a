use Rattle.std.proofs.Common.{◌≡◌, ◌*◌, map, take}
use Rattle.bit_compile.specs.Domains.{width_of}
use Rattle.spec_order.proofs.slots.widths.Given as goal

abbrev pub invariant-loop-k : goal.invariant-loop-k
invariant-loop-k l = l.widths.items ≡ map (λ d. 2 * width_of d) (take l.k l.codes)
