use Rattle.std.proofs.Common.{◌≡◌, ◌++◌, length, take, drop}
use Rattle.spec_model.specs.Games.{GameData}
use Rattle.spec_model.specs.Rules.{Run}
use Rattle.trace_planes.specs.Audits.{HasJudged}
use Rattle.trace_planes.specs.Rows.{AreRows, AreClear, rows_of}
use Rattle.trace_planes.proofs.passing.judge_rows.Given as goal

abbrev pub invariant-loop-i : goal.invariant-loop-i
invariant-loop-i l =
    record {
      rest : (g : GameData) (ps : Run) → AreRows g l.width ps l.rows → length ps ≡ l.count → l.rest ≡ rows_of (drop l.i ps);
      judged : (g : GameData) (h ps : Run) → HasJudged l.fn.plain g h → AreRows g l.width ps l.rows → length ps ≡ l.count → AreClear g h ps l.clear → HasJudged l.plain g (h ++ take l.i ps);
    }
