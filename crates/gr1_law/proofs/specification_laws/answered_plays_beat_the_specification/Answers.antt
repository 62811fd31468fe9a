use Rattle.gr1_law.proofs.CarryingBeats.{play_beats}
use Rattle.gr1_law.proofs.specification_laws.answered_plays_beat_the_specification.Goals as goal

pub returns : goal.returns
returns c = play_beats
