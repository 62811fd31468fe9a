use Rattle.gr1_sys.proofs.Parted.{last_region_found}
use Rattle.gr1_sys.proofs.ranks.last_layer.Goals as goal

pub returns-in-Some : goal.returns-in-Some
returns-in-Some g c = last_region_found c.args.none.now c.args.layers.now c.in-Some.layer.now c.in-Some.ensures.value
