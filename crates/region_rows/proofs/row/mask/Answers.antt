use Rattle.std.proofs.Common.{arith}
use Rattle.region_rows.proofs.WordLaws.{full_ones, low_ones}
use Rattle.region_rows.proofs.row.mask.Goals as goal

pub returns-then-j-count : goal.returns-then-j-count
returns-then-j-count c = full_ones c.args.count c.args.j (omega arith)

pub returns-else-j-count : goal.returns-else-j-count
returns-else-j-count c = low_ones c.args.count c.args.j (omega arith)
