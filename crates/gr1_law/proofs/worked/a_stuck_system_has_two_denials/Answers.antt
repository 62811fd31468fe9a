use Rattle.gr1_law.proofs.Stuck.{stuck_denials}
use Rattle.gr1_law.proofs.worked.a_stuck_system_has_two_denials.Goals as goal

pub returns : goal.returns
returns c = stuck_denials
