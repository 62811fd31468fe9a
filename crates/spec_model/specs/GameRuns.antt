-- What a run of a game is, state by state, and what its goals ask of it.
use Rattle.std.specs.Prelude.{ℕ, zero, suc, List, map, get_or}
use Rattle.spec_model.specs.Meaning.{Reading, holds_at}
use Rattle.spec_model.specs.Rules.{Run, RecurringGoal}
use Rattle.spec_model.specs.Moves.{nothing, value_among}
use Rattle.spec_model.specs.Games.{GoalData, GameData, State, entry_at, first_hidden, next_hidden}

abbrev pub hidden_at : GameData → Run → ℕ → List ℕ
hidden_at g h zero = first_hidden g
hidden_at g h (suc t) = next_hidden g (record { hidden = hidden_at g h t; position = get_or h t nothing })

abbrev pub state_at : GameData → Run → ℕ → State
state_at g h t = record { hidden = hidden_at g h t; position = get_or h t nothing }

abbrev pub game_reading : GameData → Run → Reading
game_reading g h =
    record {
      variable = λ k t. value_among g.variables (get_or h t nothing) k;
      entry = λ table part t. entry_at g (state_at g h t) table part;
    }

abbrev pub goals_in : GameData → List GoalData → List RecurringGoal
goals_in g goals = map (λ goal. record { label = goal.label; holds = λ h t. holds_at (game_reading g h) goal.holds t }) goals
