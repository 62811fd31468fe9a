-- The number of a state: its place in the order of all states.
use Rattle.std.specs.Prelude.{ℕ, suc, ◌+◌, ◌*◌, pos, Bool, true, false, ◌&&◌, if◌then◌else◌, List, [], ◌∷◌, length, map, flat_map}
use Rattle.spec_model.specs.declared.value.Value.{Value}
use Rattle.spec_model.specs.declared.value.Value.TheVariants as value
use Rattle.spec_model.specs.Values.{same_value}
use Rattle.spec_model.specs.Games.{GameData, State, inputs_of, outputs_of}
use Rattle.spec_model.specs.Steps.{hidden_values}

-- whether two lists have the same values
abbrev pub same_values : List Value → List Value → Bool
same_values [] [] = true
same_values (v ∷ vs) (w ∷ ws) = same_value v w && same_values vs ws
same_values _ _ = false

-- all choices of one value of each list, the last one changing fastest
abbrev pub choices : {X : Type 0} → List (List X) → List (List X)
choices [] = [] ∷ []
choices (vs ∷ options) = flat_map (λ v. map (λ c. v ∷ c) (choices options)) vs

-- the place of the first list with these values, or the number of lists
abbrev pub place_in : List (List Value) → List Value → ℕ
place_in [] c = 0
place_in (d ∷ ds) c = if same_values d c then 0 else suc (place_in ds c)

-- hidden values as values
abbrev pub as_values : List ℕ → List Value
as_values vs = map (λ v. value.Int (pos v)) vs

abbrev pub hidden_choices : GameData → List (List Value)
hidden_choices g = map as_values (hidden_values g.hidden)

-- the number of a state with these places
abbrev pub number_at : GameData → ℕ → ℕ → ℕ → ℕ
number_at g h i o = h * (length (inputs_of g) * length (outputs_of g)) + (i * length (outputs_of g) + o)

abbrev pub number_of_state : GameData → State → ℕ
number_of_state g s = number_at g (place_in (hidden_choices g) (as_values s.hidden)) (place_in (inputs_of g) s.position.input) (place_in (outputs_of g) s.position.output)
