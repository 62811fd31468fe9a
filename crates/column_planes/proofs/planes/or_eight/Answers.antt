use Rattle.std.proofs.Common.{bit_or}
use Rattle.column_planes.proofs.Lanes.{eight_of_both}
use Rattle.column_planes.proofs.planes.or_eight.Goals as goal

pub returns-clause-written : goal.returns-clause-written
returns-clause-written c = eight_of_both bit_or c.args.a.now c.args.b.now c.args.out.now c.args.at c.requires.lengths.0 c.requires.lengths.1 c.requires.room c.requires.written
