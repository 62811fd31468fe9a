use Rattle.pattern_rows.proofs.Filled as lemmas
use Rattle.pattern_rows.proofs.laws.tables_are_filled.Goals as goal

pub returns : goal.returns
returns c = lemmas.filled
