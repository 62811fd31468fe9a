use Rattle.gr1_law.proofs.SidesDual.{sides_dual}
use Rattle.gr1_law.proofs.env_laws.sides_are_dual.Goals as goal

pub returns : goal.returns
returns c = sides_dual
