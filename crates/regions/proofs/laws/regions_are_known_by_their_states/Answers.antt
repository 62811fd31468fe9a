use Rattle.spec_model.proofs.Duality.{parts_agree}
use Rattle.regions.proofs.laws.regions_are_known_by_their_states.Goals as goal

pub returns : goal.returns
returns c = parts_agree
