use Rattle.spec_model.proofs.Forced as lemmas
use Rattle.spec_model.proofs.laws.forced_is_well_typed.Goals as goal

pub returns : goal.returns
returns c = lemmas.forced_is_well_typed
