use Rattle.std.proofs.Common.{arith}
use Rattle.region_rows.proofs.WordLaws.{packed_shown}
use Rattle.region_rows.proofs.row.packed.Goals as goal

pub returns : goal.returns
returns c = packed_shown _ c.args.bits.now c.loop-j.j (omega arith) c.loop-j.invariant.count c.loop-j.invariant.bits
