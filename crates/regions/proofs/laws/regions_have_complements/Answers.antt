use Rattle.spec_model.proofs.Duality.{both-rest, either-rest, rest-rest}
use Rattle.regions.proofs.laws.regions_have_complements.Goals as goal

pub returns : goal.returns
returns c = λ g. record { apart = both-rest g; together = either-rest g; twice = rest-rest g }
