use Rattle.gr1_law.proofs.LostGames.{losing_case}
use Rattle.gr1_law.proofs.env_laws.losing_is_a_special_case.Goals as goal

pub returns : goal.returns
returns c = losing_case
