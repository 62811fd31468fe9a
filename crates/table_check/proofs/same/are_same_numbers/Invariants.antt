use Rattle.std.proofs.Common.{◌≡◌, drop, map}
use Rattle.game_play.specs.Sights.{cell_in}
use Rattle.strategy_tables.specs.Tables.{same_numbers}
use Rattle.table_check.proofs.same.are_same_numbers.Given as goal

abbrev pub invariant-loop-i : goal.invariant-loop-i
invariant-loop-i l = same_numbers (map cell_in (drop l.i l.a)) (map cell_in (drop l.i l.b)) ≡ same_numbers (map cell_in l.a) (map cell_in l.b)
