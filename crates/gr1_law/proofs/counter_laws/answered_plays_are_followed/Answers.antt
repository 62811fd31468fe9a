use Rattle.gr1_law.proofs.FollowedPlays.{plays_followed}
use Rattle.gr1_law.proofs.counter_laws.answered_plays_are_followed.Goals as goal

pub returns : goal.returns
returns c = plays_followed
