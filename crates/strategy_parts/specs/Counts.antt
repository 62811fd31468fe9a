-- How many values a state has, and how many recurring lines a game.
use Rattle.std.specs.Prelude.{ℕ, ◌+◌, ◌<◌, ◌^◌, length}
use Rattle.spec_model.specs.Games.{GameData}
use Rattle.regions.specs.Rules.{input_count, output_count}

-- those of the hidden tables, of the inputs and of the outputs
abbrev pub value_count : GameData → ℕ
value_count g = length g.hidden + (input_count g + output_count g)

-- 32 bits count its goals and its assumptions from 1
pub record HasFewGoals (g : GameData) : Type 0 where
  pub goals : length g.goals < 2 ^ 32
  pub asms : length g.assume < 2 ^ 32
