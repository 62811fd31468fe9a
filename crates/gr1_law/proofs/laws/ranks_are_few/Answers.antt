use Rattle.gr1_law.proofs.Settling.{ranks_few}
use Rattle.gr1_law.proofs.laws.ranks_are_few.Goals as goal

pub returns : goal.returns
returns c = ranks_few
