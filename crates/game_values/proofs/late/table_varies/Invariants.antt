use Rattle.std.proofs.Common.{◌≡◌, ◌-◌, ◌%◌, not, get_or, false}
use Rattle.std.specs.List.{list_any}
use Rattle.std.specs.Bool.{beq}
use Rattle.spec_model.specs.Steps.{below}
use Rattle.game_values.proofs.late.table_varies.Given as goal

abbrev pub invariant-loop-cell : goal.invariant-loop-cell
invariant-loop-cell l = list_any (λ cell. not (beq (get_or l.table cell false) (get_or l.table (cell - cell % l.letters) false))) (below l.cell) ≡ false
