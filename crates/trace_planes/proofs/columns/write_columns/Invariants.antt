use Rattle.std.proofs.Common.{◌≡◌, length, drop}
use Rattle.spec_model.specs.GameViews.{game_data}
use Rattle.spec_model.specs.Rules.{Run}
use Rattle.trace_planes.specs.Rows.{AreRows, HasColumns, rows_of}
use Rattle.trace_planes.proofs.columns.write_columns.Given as goal

abbrev pub invariant-loop-i : goal.invariant-loop-i
invariant-loop-i l =
    record {
      sized : length l.codes ≡ length l.fn.codes;
      rest : (ps : Run) → AreRows (game_data l.game) l.width ps l.rows → length ps ≡ l.count → l.rest ≡ rows_of (drop l.i ps);
      columns : (ps : Run) → AreRows (game_data l.game) l.width ps l.rows → length ps ≡ l.count → HasColumns l.codes (game_data l.game) l.i ps;
    }
