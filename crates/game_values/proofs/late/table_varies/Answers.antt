use Rattle.std.proofs.Common.{◌-◌, ◌%◌, sym, not, get_or, false, length}
use Rattle.std.specs.Bool.{beq}
use Rattle.game_values.proofs.Belows.{any_below}
use Rattle.game_values.proofs.late.table_varies.Goals as goal

pub returns-then-bit_in : goal.returns-then-bit_in
returns-then-bit_in c =
    sym (any_below (λ cell. not (beq (get_or c.args.table.now cell false) (get_or c.args.table.now (cell - cell % c.args.letters) false))) (length c.args.table.now) c.loop-cell.cell c.loop-cell-test.true
    (rw (c.bit_in.ensures, c.bit_in-in-loop-cell.ensures) at c.if-bit_in.true))
