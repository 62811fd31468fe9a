use Rattle.spec_model.proofs.FirstLines as lines
use Rattle.spec_model.proofs.laws.first_is_least.Goals as goal

pub returns : goal.returns
returns c = lines.first_is_least
