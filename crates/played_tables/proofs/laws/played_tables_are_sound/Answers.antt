use Rattle.played_tables.proofs.Played.{played_sound}
use Rattle.played_tables.proofs.laws.played_tables_are_sound.Goals as goal

pub returns : goal.returns
returns c = played_sound
