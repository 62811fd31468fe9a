use Rattle.gr1_law.proofs.Lights.{permitted_rounds}
use Rattle.gr1_law.proofs.worked.a_permitted_output_has_three_rounds.Goals as goal

pub returns : goal.returns
returns c = permitted_rounds
