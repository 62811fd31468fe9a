use Rattle.std.proofs.Common.{arith}
use Rattle.region_rows.proofs.WordLaws.{filled_shown}
use Rattle.region_rows.proofs.row.filled.Goals as goal

pub returns : goal.returns
returns c = filled_shown _ c.args.value c.args.count c.loop-j.j (omega arith) c.loop-j.invariant
