use Rattle.session_lines.proofs.Rooms.{wholes_short}
use Rattle.session_lines.proofs.make.longest_whole.Goals as goal

pub returns : goal.returns
returns c = λ names. wholes_short names c.args.lo c.args.hi c.ranges.lo.sfits c.ranges.hi.sfits
