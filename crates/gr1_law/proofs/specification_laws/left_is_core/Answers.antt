use Rattle.gr1_law.proofs.CoreTrials.{left_is_core}
use Rattle.gr1_law.proofs.specification_laws.left_is_core.Goals as goal

pub returns : goal.returns
returns c = left_is_core
