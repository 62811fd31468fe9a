use Rattle.std.proofs.Common.{sym}
use Rattle.table_check.proofs.Alike.{same_values-long}
use Rattle.table_check.proofs.same.are_same.Goals as goal

pub returns-then-a-b : goal.returns-then-a-b
returns-then-a-b c = sym (same_values-long c.args.a.now c.args.b.now c.if-a-b.true)
