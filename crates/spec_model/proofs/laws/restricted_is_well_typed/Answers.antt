use Rattle.spec_model.proofs.Restricted as lemmas
use Rattle.spec_model.proofs.laws.restricted_is_well_typed.Goals as goal

pub returns : goal.returns
returns c = lemmas.restricted_is_well_typed
