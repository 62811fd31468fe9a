use Rattle.std.proofs.Common.{◌≡◌, ◌++◌, drop, map, get_or, false}
use Rattle.game_values.proofs.read.entries_at.Given as goal

abbrev pub invariant-loop-table : goal.invariant-loop-table
invariant-loop-table l = l.entries.items ++ map (λ table. get_or table l.cell false) (map (λ t. t.items) (drop l.table-index l.tables)) ≡ map (λ table. get_or table l.cell false) (map (λ t. t.items) l.tables)
