use Rattle.gr1_law.proofs.Staying.{staying_wins}
use Rattle.gr1_law.proofs.specification_laws.staying_wins.Goals as goal

pub returns : goal.returns
returns c = staying_wins
