use Rattle.std.proofs.Common.{◌+◌, ◌*◌}
use Rattle.spec_model.specs.Views.{formula}
use Rattle.spec_model.specs.FormulaSizes.{nodes_in}
use Rattle.column_planes.proofs.numbers.+numbers.Given as goal

-- expressions become smaller
abbrev pub decreases-values : goal.decreases-values
decreases-values l = 8 * nodes_in (formula l.e.now)

abbrev pub decreases-next_values : goal.decreases-next_values
decreases-next_values l = 8 * nodes_in (formula l.e.now) + 1

abbrev pub decreases-both_values : goal.decreases-both_values
decreases-both_values l = 8 * (nodes_in (formula l.a.now) + nodes_in (formula l.b.now)) + 1

abbrev pub decreases-remainders : goal.decreases-remainders
decreases-remainders l = 8 * nodes_in (formula l.e.now) + 1
