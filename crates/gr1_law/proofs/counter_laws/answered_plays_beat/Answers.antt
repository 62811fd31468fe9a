use Rattle.gr1_law.proofs.CounterBeats.{play_beats}
use Rattle.gr1_law.proofs.counter_laws.answered_plays_beat.Goals as goal

pub returns : goal.returns
returns c = play_beats
