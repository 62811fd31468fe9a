use Rattle.std.proofs.Common.{◌≡◌, drop}
use Rattle.strategy_tables.specs.Tables.{same_values}
use Rattle.strategy_check.proofs.seats.are_same.Given as goal

abbrev pub invariant-loop-i : goal.invariant-loop-i
invariant-loop-i l = same_values (drop l.i l.a) (drop l.i l.b) ≡ same_values l.a l.b
