use Rattle.std.proofs.Common.{refl}
use Rattle.gr1_env.proofs.solving.counted.Goals as goal

pub returns-else-is_some-clause-told : goal.returns-else-is_some-clause-told
returns-else-is_some-clause-told g c = (refl, c.spend_layers.ensures.spends.jam)
