use Rattle.spec_model.proofs.Closed.{closed}
use Rattle.regions.proofs.laws.well_made_games_are_closed.Goals as goal

pub returns : goal.returns
returns c = closed
