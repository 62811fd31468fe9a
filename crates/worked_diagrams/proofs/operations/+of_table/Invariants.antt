use Rattle.std.proofs.Common.{◌-◌}
use Rattle.worked_diagrams.proofs.operations.+of_table.Given as goal

-- the levels that are left
abbrev pub decreases-of_table : goal.decreases-of_table
decreases-of_table g l = 3 - l.level
