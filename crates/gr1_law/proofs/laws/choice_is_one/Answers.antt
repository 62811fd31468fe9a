use Rattle.gr1_law.proofs.OneChoice.{choice-one}
use Rattle.gr1_law.proofs.laws.choice_is_one.Goals as goal

pub returns : goal.returns
returns c = choice-one
