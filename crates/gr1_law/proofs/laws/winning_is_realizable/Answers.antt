use Rattle.gr1_law.proofs.Keeping.{realizable}
use Rattle.gr1_law.proofs.laws.winning_is_realizable.Goals as goal

pub returns : goal.returns
returns c g made z l ranks w greatest start = realizable g made z l ranks w greatest start
