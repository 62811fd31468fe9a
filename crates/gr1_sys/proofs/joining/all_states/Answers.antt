use Rattle.gr1_sys.proofs.Told.{told_all, told_none}
use Rattle.gr1_sys.proofs.joining.all_states.Goals as goal

pub returns-clause-told : goal.returns-clause-told
returns-clause-told g c = search (told_all, told_none)
