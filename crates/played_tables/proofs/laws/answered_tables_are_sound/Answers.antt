use Rattle.played_tables.proofs.CounterPlayed.{answered_sound}
use Rattle.played_tables.proofs.laws.answered_tables_are_sound.Goals as goal

pub returns : goal.returns
returns c = answered_sound
