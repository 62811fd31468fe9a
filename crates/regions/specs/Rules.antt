-- What the calls of a region object answer, as sets and moves of its game.
use Rattle.std.specs.Prelude.{◌≡◌, ℕ, Bool, true, false, not, ◌&&◌, if◌then◌else◌, List, [], length, Option, Some, None, slice_get, IsTrue}
use Rattle.spec_model.specs.declared.value.Value.{Value}
use Rattle.spec_model.specs.Values.{Assignment}
use Rattle.spec_model.specs.Moves.{is_env, domains_of}
use Rattle.spec_model.specs.Games.{GameData, GoalData, listed}
use Rattle.spec_model.specs.Steps.{Before, is_state, is_input, is_output, legal_input}
use Rattle.spec_model.specs.Sets.{StateSet, no_states, holding, output_into, input_into}
use Rattle.regions.specs.declared.types.When.{When}
use Rattle.regions.specs.declared.types.When.TheVariants.{First, Later}
use Rattle.regions.specs.declared.types.Recur.{Recur}
use Rattle.regions.specs.declared.types.Recur.TheVariants.{Assumption, Guarantee}

-- the goals of a kind, and the number of one of them
abbrev pub goals_like : GameData → Recur → List GoalData
goals_like g (Assumption k) = g.assume
goals_like g (Guarantee k) = g.goals

abbrev pub number_of : Recur → ℕ
number_of (Assumption k) = k
number_of (Guarantee k) = k

-- the states at which the goal holds
abbrev pub states_holding : GameData → Recur → StateSet
states_holding g what = of_goal (slice_get (goals_like g what) (number_of what))
  where
    of_goal : Option GoalData → StateSet
    of_goal None = no_states
    of_goal (Some goal) = holding g goal.holds

-- ---- moves

-- at the first move nothing is before; later a state is
abbrev pub is_time : GameData → When → Before → Bool
is_time g First None = true
is_time g Later (Some s) = is_state g s
is_time g _ _ = false

-- the legal outputs that lead into a set after a legal input
abbrev pub outputs_into : GameData → When → StateSet → Before → Assignment → Assignment → Bool
outputs_into g when t b x y = is_time g when b && (is_input g x && (legal_input g b x && (is_output g y && output_into g t b x y)))

-- the legal inputs all of whose legal outputs lead into a set
abbrev pub inputs_into : GameData → When → StateSet → Before → Assignment → Bool
inputs_into g when t b x = is_time g when b && (is_input g x && input_into g t b x)

-- ---- values in slices

-- the values of the state before; there are none at the first move
abbrev pub listed_before : Before → List Value
listed_before None = []
listed_before (Some s) = listed s

-- At the first move there are none; later these are the values of a state.
pub record AreBefore (g : GameData) (when : When) (b : Before) (values : List Value) : Type 0 where
  pub listed : listed_before b ≡ values
  pub time : IsTrue (is_time g when b)

-- A call that finds the first of several answers true and writes it, or false where there is none.
abbrev pub Found : Bool → Assignment → Option Assignment → Type 0
Found answer written first = first ≡ (if answer then Some written else None)

-- as many values as an assignment of the outputs has, and of the inputs
abbrev pub output_count : GameData → ℕ
output_count g = length (domains_of (λ o. not (is_env o)) g.variables)

abbrev pub input_count : GameData → ℕ
input_count g = length (domains_of is_env g.variables)
