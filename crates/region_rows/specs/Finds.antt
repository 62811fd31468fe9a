-- Which moves are looked for from a state.
use Rattle.std.specs.Prelude.{◌≡◌, Bool, true, ◌&&◌}
use Rattle.spec_model.specs.Values.{Assignment}
use Rattle.spec_model.specs.Games.{GameData}
use Rattle.spec_model.specs.Steps.{Before, is_state, is_input, is_output, reached, legal_input}
use Rattle.spec_model.specs.Sets.{StateSet, output_into, input_into}

-- the states reached by the listed moves are states
abbrev pub LeadsToStates : GameData → Before → Type 0
LeadsToStates g b = (x y : Assignment) → is_input g x ≡ true → is_output g y ≡ true → is_state g (reached g b x y) ≡ true

abbrev pub output_test : GameData → StateSet → Before → Assignment → Assignment → Bool
output_test g t b x y = is_input g x && (legal_input g b x && (is_output g y && output_into g t b x y))

abbrev pub input_test : GameData → StateSet → Before → Assignment → Bool
input_test g t b x = is_input g x && input_into g t b x
