use Rattle.std.specs.Int.{bit_not, w64}
use Rattle.column_planes.proofs.Lanes.{eight_of_one}
use Rattle.column_planes.proofs.planes.not_eight.Goals as goal

pub returns-clause-written : goal.returns-clause-written
returns-clause-written c = eight_of_one (bit_not w64) c.args.a.now c.args.out.now c.args.at c.requires.lengths c.requires.room c.requires.written
