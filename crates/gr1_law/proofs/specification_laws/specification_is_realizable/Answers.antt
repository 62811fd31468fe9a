use Rattle.gr1_law.proofs.Carrying.{realizable}
use Rattle.gr1_law.proofs.specification_laws.specification_is_realizable.Goals as goal

pub returns : goal.returns
returns c = realizable
