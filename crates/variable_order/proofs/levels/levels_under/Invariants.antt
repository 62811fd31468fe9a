use Rattle.std.proofs.Common.{◌≡◌}
use Rattle.variable_order.specs.Levels.{levels_upto}
use Rattle.variable_order.proofs.levels.levels_under.Given as goal

abbrev pub invariant-loop-slot : goal.invariant-loop-slot
invariant-loop-slot l = l.levels.items ≡ levels_upto l.widths l.order l.slot
