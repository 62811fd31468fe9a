-- The moves from a state, by the numbers of the states that they lead to.
use Rattle.std.specs.Prelude.{ℕ, suc, ◌+◌, Bool, false, if◌then◌else◌, List, [], ◌∷◌, map, Option, Some, None, option_map, unwrap_or, slice_get}
use Rattle.std.specs.List.{list_all}
use Rattle.spec_model.specs.Values.{Assignment}
use Rattle.spec_model.specs.Games.{GameData, State, inputs_of, outputs_of}
use Rattle.spec_model.specs.Steps.{Before, states_of, reached, legal_input, legal_output, assumptions_hold, guarantees_hold}
use Rattle.game_states.specs.Numbers.{number_at, number_of_state}

-- the state of a number, if there is one
abbrev pub before_of : GameData → Option ℕ → Before
before_of g None = None
before_of g (Some from) = slice_get (states_of g) from

-- a test of the state of a number
abbrev pub judged : GameData → (State → Bool) → ℕ → Bool
judged g test at = unwrap_or (option_map test (slice_get (states_of g) at)) false

-- as many results as a list has elements, for numbers that rise from the first
abbrev pub spread : {X Y : Type 0} → (ℕ → Y) → ℕ → List X → List Y
spread f k [] = []
spread f k (x ∷ xs) = f k ∷ spread f (suc k) xs

-- where the states from a number on are those of the outputs: whether the input is legal, and the states that the legal outputs lead to
abbrev pub is_legal_from : GameData → Option ℕ → ℕ → Bool
is_legal_from g before base = list_all (λ b. b) (spread (λ k. judged g (assumptions_hold g (before_of g before)) (base + k)) 0 (outputs_of g))

abbrev pub answer_at : GameData → Option ℕ → ℕ → Option ℕ
answer_at g before at = if judged g (guarantees_hold g (before_of g before)) at then Some at else None

abbrev pub answers_from : GameData → Option ℕ → ℕ → List (Option ℕ)
answers_from g before base = spread (λ k. answer_at g before (base + k)) 0 (outputs_of g)

abbrev pub input_moves_from : GameData → Option ℕ → ℕ → Option (List (Option ℕ))
input_moves_from g before base = if is_legal_from g before base then Some (answers_from g before base) else None

-- the answers to each legal input, at hidden values of this place
abbrev pub moves_from : GameData → Option ℕ → ℕ → List (Option (List (Option ℕ)))
moves_from g before h = spread (λ i. input_moves_from g before (number_at g h i 0)) 0 (inputs_of g)

-- the numbers that the legal outputs lead to, and the answers to each legal input
abbrev pub answers_of : GameData → Before → Assignment → List (Option ℕ)
answers_of g b x = map (λ y. if legal_output g b x y then Some (number_of_state g (reached g b x y)) else None) (outputs_of g)

abbrev pub moves_of : GameData → Before → List (Option (List (Option ℕ)))
moves_of g b = map (λ x. if legal_input g b x then Some (answers_of g b x) else None) (inputs_of g)
