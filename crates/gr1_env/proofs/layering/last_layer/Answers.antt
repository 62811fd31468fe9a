use Rattle.gr1_env.proofs.Growing.{last_z_found}
use Rattle.gr1_env.proofs.layering.last_layer.Goals as goal

pub returns-in-Some : goal.returns-in-Some
returns-in-Some g c = last_z_found c.args.none.now c.args.layers.now c.in-Some.layer.now c.in-Some.ensures.value
