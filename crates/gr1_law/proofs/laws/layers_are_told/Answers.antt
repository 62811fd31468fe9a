use Rattle.gr1_law.proofs.Layering.{layers_of, layers_of-layers}
use Rattle.gr1_law.proofs.Solutions.{y-one, x-one}
use Rattle.gr1_law.proofs.laws.layers_are_told.Goals as goal

pub returns : goal.returns
returns c g z = record { some = (layers_of g z, layers_of-layers g z); same_y = y-one g z; same_x = x-one g z }
