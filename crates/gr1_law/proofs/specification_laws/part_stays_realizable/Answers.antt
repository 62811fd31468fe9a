use Rattle.gr1_law.proofs.CoreTrials.{part_stays}
use Rattle.gr1_law.proofs.specification_laws.part_stays_realizable.Goals as goal

pub returns : goal.returns
returns c = part_stays
