use Rattle.std.proofs.Common.{◌≡◌, drop, map}
use Rattle.std.specs.List.{list_any}
use Rattle.spec_model.specs.Steps.{varies}
use Rattle.game_values.proofs.late.some_table_varies.Given as goal

abbrev pub invariant-loop-table : goal.invariant-loop-table
invariant-loop-table l = list_any (varies l.letters) (map (λ t. t.items) (drop l.table-index l.tables)) ≡ list_any (varies l.letters) (map (λ t. t.items) l.tables)
