use Rattle.strategy_text.proofs.Back.{reads_back}
use Rattle.strategy_text.proofs.laws.what_is_written_is_read.Goals as goal

pub returns : goal.returns
returns c = λ s t typed. reads_back s typed t
