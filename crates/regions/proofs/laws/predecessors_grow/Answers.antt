use Rattle.spec_model.proofs.SetLaws.{pre_sys_grows, pre_env_grows}
use Rattle.regions.proofs.laws.predecessors_grow.Goals as goal

pub returns : goal.returns
returns c = λ g. record { of_system = pre_sys_grows g; of_environment = pre_env_grows g }
