use Rattle.gr1_law.proofs.StateCounts.{system_wins}
use Rattle.gr1_law.proofs.specification_laws.system_wins.Goals as goal

pub returns : goal.returns
returns c = system_wins
