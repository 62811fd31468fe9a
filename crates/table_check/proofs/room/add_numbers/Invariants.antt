use Rattle.std.proofs.Common.{◌≡◌, ◌++◌, map, take}
use Rattle.game_play.specs.Sights.{cell_in, as_values}
use Rattle.table_check.proofs.room.add_numbers.Given as goal

abbrev pub invariant-loop-value : goal.invariant-loop-value
invariant-loop-value l = l.out.items ≡ l.fn.out.items ++ as_values (map cell_in (take l.value-index l.values))
