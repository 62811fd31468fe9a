use Rattle.std.proofs.Common.{arith}
use Rattle.region_rows.proofs.WordLaws.{both_shown}
use Rattle.region_rows.proofs.row.both.Goals as goal

pub returns : goal.returns
returns c = both_shown _ c.args.a.now c.args.b.now c.args.count c.loop-j.j (omega arith) c.loop-j.invariant
