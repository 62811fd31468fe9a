-- What formulas read of a state and of the next one.
use Rattle.std.specs.Prelude.{ℕ, zero, suc, Bool, false, List, [], get_or, map, length}
use Rattle.spec_model.specs.declared.value.Value.{Value}
use Rattle.spec_model.specs.declared.value.Value.TheVariants as value
use Rattle.spec_model.specs.Rules.{Position}
use Rattle.spec_model.specs.Moves.{value_among}
use Rattle.spec_model.specs.Games.{GameData, State, readout_of}
use Rattle.spec_model.specs.Steps.{below}
use Rattle.spec_model.specs.Syntax.{VariableData, Formula}
use Rattle.spec_model.specs.Meaning.{Reading, holds_at}
use Rattle.game_values.specs.declared.moments.Moment.{Moment}
use Rattle.game_values.specs.declared.moments.Moments.{Moments}

-- the value of each variable, and the entries of each table
pub record MomentData : Type 0 where
  pub values : List Value
  pub entries : List (List Bool)

abbrev pub moment_data : Moment → MomentData
moment_data m = record { values = m.values.items; entries = map (λ es. es.items) m.entries.items }

-- a moment and the next one
abbrev pub reading_of : MomentData → MomentData → Reading
reading_of now next =
    record {
      variable = λ k t. get_or (moment t).values k (value.Bool false);
      entry = λ h n t. get_or (get_or (moment t).entries h []) n false;
    }
  where
    moment : ℕ → MomentData
    moment zero = now
    moment (suc t) = next

-- what two moments give
abbrev pub reading_in : Moments → Reading
reading_in m = reading_of (moment_data m.here.now) (moment_data m.next.now)

-- ---- the moment of a state

-- the value of each variable, in declared order
abbrev pub values_at : List VariableData → Position → List Value
values_at vs p = map (λ k. value_among vs p k) (below (length vs))

abbrev pub moment_of : GameData → State → MomentData
moment_of g s = record { values = values_at g.variables s.position; entries = (readout_of g s).entries }

-- what is read at a moment alone
abbrev pub at_moment : MomentData → Formula → Bool
at_moment m e = holds_at (reading_of m m) e 0
