use Rattle.std.proofs.Common.{arith}
use Rattle.region_rows.proofs.WordLaws.{copied_shown}
use Rattle.region_rows.proofs.row.copied.Goals as goal

pub returns : goal.returns
returns c = copied_shown _ c.args.a.now c.args.count c.loop-j.j (omega arith) c.loop-j.invariant
