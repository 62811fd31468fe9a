-- A game as its players see it, over runs with their hidden values.
use Rattle.std.specs.Prelude.{ℕ, zero, suc, ◌&&◌, Some, None, length}
use Rattle.spec_model.specs.Rules.{Run, Rules}
use Rattle.spec_model.specs.Games.{GameData}
use Rattle.spec_model.specs.GameRuns.{state_at, goals_in}
use Rattle.spec_model.specs.Steps.{Before, is_input, is_output, legal_input, legal_output}

-- the state before a position of the run
abbrev pub before_at : GameData → Run → ℕ → Before
before_at g h zero = None
before_at g h (suc t) = Some (state_at g h t)

-- the run's last state; there is none before the first position
abbrev pub last_state : GameData → Run → Before
last_state g h = before_at g h (length h)

-- which moves are legal after a run, and which goals recur
abbrev pub rules_of_game : GameData → Rules
rules_of_game g =
    record {
      legal_input = λ h x. is_input g x && legal_input g (last_state g h) x;
      legal_output = λ h x y. is_output g y && legal_output g (last_state g h) x y;
      assumptions = goals_in g g.assume;
      guarantees = goals_in g g.goals;
    }
