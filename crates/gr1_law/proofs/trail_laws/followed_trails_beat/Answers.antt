use Rattle.gr1_law.proofs.CounterRounds.{beaten}
use Rattle.gr1_law.proofs.trail_laws.followed_trails_beat.Goals as goal

pub returns : goal.returns
returns c g made differ n m counts h notes memory rank trail some = beaten g n m counts h notes memory rank trail made differ some
