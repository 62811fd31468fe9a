use Rattle.gr1_law.proofs.Holds.{hold_told}
use Rattle.gr1_law.proofs.env_laws.hold_is_told.Goals as goal

pub returns : goal.returns
returns c = hold_told
