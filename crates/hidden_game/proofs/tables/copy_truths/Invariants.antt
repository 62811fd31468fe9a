use Rattle.std.proofs.Common.{◌≡◌, map, take}
use Rattle.hidden_game.proofs.tables.copy_truths.Given as goal

abbrev pub invariant-loop-table : goal.invariant-loop-table
invariant-loop-table l = map (λ t. t.items) l.copies.items ≡ map (λ t. t.items) (take l.table-index l.tables)
