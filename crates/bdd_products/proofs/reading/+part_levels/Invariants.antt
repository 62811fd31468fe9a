use Rattle.std.proofs.Common.{length}
use Rattle.bdd_products.proofs.reading.+part_levels.Given as goal

-- the levels that are left
abbrev pub decreases-part_levels : goal.decreases-part_levels
decreases-part_levels l = length l.levels.now
