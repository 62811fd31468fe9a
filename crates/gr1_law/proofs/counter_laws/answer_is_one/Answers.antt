use Rattle.gr1_law.proofs.CounterBeats.{answer-one}
use Rattle.gr1_law.proofs.counter_laws.answer_is_one.Goals as goal

pub returns : goal.returns
returns c = answer-one
