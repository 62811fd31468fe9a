use Rattle.gr1_law.proofs.EnvLayering.{env_told}
use Rattle.gr1_law.proofs.env_laws.env_layers_are_told.Goals as goal

pub returns : goal.returns
returns c = env_told
