use Rattle.trigger_dfa.proofs.Stretches as stretches
use Rattle.trigger_dfa.proofs.laws.none_is_missed.Goals as goal

pub returns : goal.returns
returns c = stretches.none_is_missed
