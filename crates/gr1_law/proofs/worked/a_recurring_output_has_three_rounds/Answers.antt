use Rattle.gr1_law.proofs.Lights.{light_rounds}
use Rattle.gr1_law.proofs.worked.a_recurring_output_has_three_rounds.Goals as goal

pub returns : goal.returns
returns c = light_rounds
