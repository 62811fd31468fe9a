use Rattle.gr1_law.proofs.CounterBeats.{unrealizable}
use Rattle.gr1_law.proofs.counter_laws.losing_is_unrealizable.Goals as goal

pub returns : goal.returns
returns c = unrealizable
