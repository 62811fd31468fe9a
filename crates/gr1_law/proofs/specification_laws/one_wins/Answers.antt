use Rattle.gr1_law.proofs.OneSide.{one_wins, one_is_true}
use Rattle.gr1_law.proofs.specification_laws.one_wins.Goals as goal

pub returns-clause-wins : goal.returns-clause-wins
returns-clause-wins c = one_wins

pub returns-clause-is_true : goal.returns-clause-is_true
returns-clause-is_true c = one_is_true
