use Rattle.gr1_law.proofs.SafeGames.{special_case}
use Rattle.gr1_law.proofs.specification_laws.safety_is_a_special_case.Goals as goal

pub returns : goal.returns
returns c = special_case
