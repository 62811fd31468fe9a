-- When a game agrees with a specification: it is the same play, with the hidden values in its states.
use Rattle.std.specs.Prelude.{◌≡◌, ◌≤◌, [], length, option_map}
use Rattle.spec_model.specs.Values.{Assignment}
use Rattle.spec_model.specs.Syntax.{Specification}
use Rattle.spec_model.specs.Rules.{Run, line_label}
use Rattle.spec_model.specs.Moves.{is_assumption, is_guarantee, goals_of, broken_assumption, broken_guarantee, rules_of}
use Rattle.spec_model.specs.Games.{GameData}
use Rattle.spec_model.specs.GameRules.{last_state, rules_of_game}
use Rattle.spec_model.specs.FirstBroken.{first_broken, first_broken_output}
use Rattle.spec_model.specs.Sizes.{size_of}
use Rattle.spec_model.specs.Steps.{states_of}

-- It has the variables of the specification. After each run, by the state that the hidden values give, it has its legal
-- moves, its recurring goals with their labels, and the same first broken assumption and guarantee or monitor's line. It has
-- no more states than the size.
pub record Agrees (s : Specification) (g : GameData) : Type 0 where
  pub variables : g.variables ≡ s.variables
  pub rules : rules_of_game g ≡ rules_of s
  pub broken : (h : Run) (x : Assignment) → first_broken g (last_state g h) x ≡ option_map line_label (broken_assumption s h x)
  pub broken_output : (h : Run) (x y : Assignment) → first_broken_output g (last_state g h) x y ≡ option_map line_label (broken_guarantee s h x y)
  pub few_states : length (states_of g) ≤ size_of s

-- ---- where nothing recurs

-- the game has no goals
abbrev pub HasNoGoals : GameData → Type 0
HasNoGoals g = (g.assume ≡ []) × (g.goals ≡ [])

-- no assumption and no guarantee recurs
abbrev pub NothingRecurs : Specification → Type 0
NothingRecurs s = (goals_of is_assumption s ≡ []) × (goals_of is_guarantee s ≡ [])
