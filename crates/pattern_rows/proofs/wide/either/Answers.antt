use Rattle.pattern_rows.proofs.Bits.{bit-or}
use Rattle.pattern_rows.proofs.wide.either.Goals as goal

pub returns : goal.returns
returns c = λ l. bit-or c.args.x c.args.y l
