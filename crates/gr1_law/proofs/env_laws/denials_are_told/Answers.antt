use Rattle.gr1_law.proofs.EnvCounts.{denials_told}
use Rattle.gr1_law.proofs.env_laws.denials_are_told.Goals as goal

pub returns : goal.returns
returns c = denials_told
