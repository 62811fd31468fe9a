use Rattle.trigger_dfa.proofs.Tables as tables
use Rattle.trigger_dfa.proofs.laws.goal_is_not_pending.Goals as goal

pub returns : goal.returns
returns c = tables.goal_is_not_pending
