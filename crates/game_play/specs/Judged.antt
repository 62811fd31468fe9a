-- Which assumption an input breaks first in a game, and which guarantee or monitor's line an output does.
use Rattle.std.specs.Prelude.{ℕ, ◌≡◌, Bool, true, false, ◌++◌, if◌then◌else◌, List, [], ◌∷◌, get_or, drop, map, Option, Some, None, option_map, IfSome, IsTrue}
use Rattle.std.specs.List.{AllByRecursion}
use Rattle.spec_model.specs.declared.expr.Expr.{Expr}
use Rattle.spec_model.specs.Syntax.{Formula}
use Rattle.spec_model.specs.Views.{formula, variable_data}
use Rattle.spec_model.specs.GameViews.{hidden_data}
use Rattle.spec_model.specs.Meaning.{Reading, holds_at}
use Rattle.spec_model.specs.Moves.{has_next}
use Rattle.spec_model.specs.Games.{GameData}
use Rattle.spec_model.specs.Steps.{waits_for_output, is_output}
use Rattle.game_values.specs.Safety.{IsSafe}
use Rattle.game_play.specs.declared.judging.Move.{Move}
use Rattle.game_play.specs.declared.judging.InputJudge.{InputJudge}
use Rattle.game_play.specs.declared.answering.OutputJudge.{OutputJudge}
use Rattle.game_play.specs.declared.made.Made.{Made}
use Rattle.game_play.specs.Sights.{reading_in, reading_at}

-- ---- what the program looks at

-- what is seen of a position whose tables are read where they are asked for
abbrev pub made_reading : Made → Reading
made_reading s = reading_at (map variable_data s.vars.now) (map hidden_data s.hidden.now) s.numbers.now (record { input = s.input.now; output = s.output.now })

-- a formula at the position that a move makes, or where it is late at the state before; at the first move a late one is not judged
abbrev pub judged : Reading → Option Reading → (late : Bool) → Formula → Bool
judged made before false e = holds_at made e 0
judged made None true e = true
judged made (Some r) true e = holds_at r e 0

abbrev pub judged_in : Move → (late : Bool) → Formula → Bool
judged_in m = judged (made_reading m.made) (option_map reading_in m.before)

-- the numbers of the lines that are false; which of them are late is given beside them
abbrev pub numbers_false : (Bool → Formula → Bool) → List Bool → List (ℕ × Formula) → List ℕ
numbers_false test flags [] = []
numbers_false test flags (l ∷ ls) = (if test (get_or flags 0 false) l.1 then [] else l.0 ∷ []) ++ numbers_false test (drop 1 flags) ls

-- the formula may be asked for at the position and at the state before
abbrev pub IsSafeIn : Move → Formula → Type 0
IsSafeIn m e = IsSafe (made_reading m.made) e 0 × IfSome m.before (λ s. IsSafe (reading_in s) e 0)

abbrev pub AreSafeIn : Move → List (ℕ × Expr) → Type 0
AreSafeIn m ls = AllByRecursion (λ l. IsSafeIn m (formula l.1)) ls

-- ---- what a judge keeps

-- it knows which safety assumptions wait for the output, and an output
pub record IsJudgeOf (g : GameData) (j : InputJudge) : Type 0 where
  pub waits : j.waits.items ≡ map (λ l. waits_for_output g l.1) g.safe_asm
  pub output : IsTrue (is_output g j.output.items)

-- it knows which guarantees and monitors' lines read a next value
pub record IsOutputJudgeOf (g : GameData) (j : OutputJudge) : Type 0 where
  pub nexts : j.nexts.items ≡ map (λ l. has_next l.1) g.safe_gar
