use Rattle.pattern_rows.proofs.Bits.{bit-and}
use Rattle.pattern_rows.proofs.wide.both.Goals as goal

pub returns : goal.returns
returns c = λ l. bit-and c.args.x c.args.y l
