use Rattle.pattern_rows.proofs.Bits.{bit-not}
use Rattle.pattern_rows.proofs.wide.negation.Goals as goal

pub returns : goal.returns
returns c = λ l below. bit-not c.args.x l c.ranges.x.fits below
