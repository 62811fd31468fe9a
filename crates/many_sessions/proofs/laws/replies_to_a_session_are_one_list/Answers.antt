use Rattle.many_sessions.specs.Solo.{unplayed}
use Rattle.many_sessions.proofs.Alone.{solo_one}
use Rattle.many_sessions.proofs.laws.replies_to_a_session_are_one_list.Goals as goal

pub returns : goal.returns
returns c = λ s g l texts replies others last end typed one other. solo_one s g l typed unplayed texts replies others last end one other
