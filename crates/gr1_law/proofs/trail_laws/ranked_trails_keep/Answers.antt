use Rattle.gr1_law.proofs.Rounds.{kept}
use Rattle.gr1_law.proofs.trail_laws.ranked_trails_keep.Goals as goal

pub returns : goal.returns
returns c g made ranks h memory trail = kept g ranks h memory trail made
