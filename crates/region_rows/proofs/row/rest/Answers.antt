use Rattle.std.proofs.Common.{arith}
use Rattle.region_rows.proofs.WordLaws.{rest_shown}
use Rattle.region_rows.proofs.row.rest.Goals as goal

pub returns : goal.returns
returns c = rest_shown _ c.args.a.now c.args.count c.loop-j.j (omega arith) c.loop-j.invariant
