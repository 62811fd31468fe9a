use Rattle.gr1_law.proofs.CounterBeats.{remembered}
use Rattle.gr1_law.proofs.counter_laws.denials_lower.Goals as goal

pub returns : goal.returns
returns c = remembered
