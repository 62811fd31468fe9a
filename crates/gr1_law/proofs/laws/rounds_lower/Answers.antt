use Rattle.gr1_law.proofs.Keeping.{remembered}
use Rattle.gr1_law.proofs.laws.rounds_lower.Goals as goal

pub returns : goal.returns
returns c g made z l ranks w greatest start = remembered g made z l ranks w greatest start
