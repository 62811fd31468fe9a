use Rattle.trigger_dfa.proofs.TypedTriggers.{typed_is_narrow}
use Rattle.trigger_dfa.proofs.laws.typed_triggers_are_narrow.Goals as goal

pub returns : goal.returns
returns c = typed_is_narrow
