use Rattle.std.proofs.Common.{◌≡◌, ◌++◌, length, take, drop}
use Rattle.spec_model.specs.GameViews.{game_data}
use Rattle.spec_model.specs.GameRules.{last_state}
use Rattle.spec_model.specs.Rules.{Run}
use Rattle.trace_planes.specs.Audits.{IsAt, IsSized, JudgesAfter}
use Rattle.trace_planes.specs.Rows.{AreRows, HasCells, rows_of}
use Rattle.trace_planes.proofs.walk.write_all_cells.Given as goal

abbrev pub invariant-loop-i : goal.invariant-loop-i
invariant-loop-i l =
    record {
      sized : length l.cells ≡ length l.fn.cells;
      ahead : IsSized (game_data l.judge.game) l.ahead;
      rest : (ps : Run) → AreRows (game_data l.judge.game) l.width ps l.rows → length ps ≡ l.count → l.rest ≡ rows_of (drop l.i ps);
      at : (h ps : Run) → JudgesAfter l.judge (game_data l.judge.game) (last_state (game_data l.judge.game) h) → AreRows (game_data l.judge.game) l.width ps l.rows → length ps ≡ l.count →
          IsAt (game_data l.judge.game) (last_state (game_data l.judge.game) (h ++ take l.i ps)) l.ahead;
      cells : (h ps : Run) → JudgesAfter l.judge (game_data l.judge.game) (last_state (game_data l.judge.game) h) → AreRows (game_data l.judge.game) l.width ps l.rows → length ps ≡ l.count →
          HasCells l.cells (game_data l.judge.game) h l.i ps;
    }
