use Rattle.gr1_law.proofs.OneSide.{environment_wins}
use Rattle.gr1_law.proofs.specification_laws.environment_wins.Goals as goal

pub returns : goal.returns
returns c = environment_wins
