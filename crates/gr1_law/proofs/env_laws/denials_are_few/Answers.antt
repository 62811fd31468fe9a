use Rattle.gr1_law.proofs.EnvCounts.{env_numbers_few}
use Rattle.gr1_law.proofs.env_laws.denials_are_few.Goals as goal

pub returns : goal.returns
returns c = env_numbers_few
