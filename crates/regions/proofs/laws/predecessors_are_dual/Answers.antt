use Rattle.spec_model.proofs.Duality.{rest-pre_sys, rest-pre_env, start_dual}
use Rattle.regions.proofs.laws.predecessors_are_dual.Goals as goal

pub returns : goal.returns
returns c = λ g closed. record { system = rest-pre_sys g closed; environment = rest-pre_env g closed; start = start_dual g closed }
