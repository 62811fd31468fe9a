use Rattle.std.proofs.Common.{sym}
use Rattle.counter_tables.proofs.Meeting.{same_values-long}
use Rattle.counter_tables.proofs.seats.are_same.Goals as goal

pub returns-then-a-b : goal.returns-then-a-b
returns-then-a-b c = sym (same_values-long c.args.a.now c.args.b.now c.if-a-b.true)
