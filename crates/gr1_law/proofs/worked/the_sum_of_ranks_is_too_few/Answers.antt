use Rattle.gr1_law.proofs.Lights.{dead_end_rounds, dead_end_short}
use Rattle.gr1_law.proofs.worked.the_sum_of_ranks_is_too_few.Goals as goal

pub returns-clause-rounds : goal.returns-clause-rounds
returns-clause-rounds c = dead_end_rounds

pub returns-clause-too_few : goal.returns-clause-too_few
returns-clause-too_few c = dead_end_short
