use Rattle.strategy_text.proofs.Only.{reads_only}
use Rattle.strategy_text.proofs.laws.only_tables_are_read.Goals as goal

pub returns : goal.returns
returns c = λ s. reads_only s
