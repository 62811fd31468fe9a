use Rattle.bdd_ops.proofs.ReadingLemmas.{choices_no_more}
use Rattle.bdd_ops.proofs.laws.choices_read_no_more.Goals as goal

pub returns : goal.returns
returns c = choices_no_more
