-- What the tables say is what the players force.
use Rattle.std.proofs.Common.{◌≡◌, ℕ, ◌<◌, Bool, true, false, not, ◌&&◌, ◌||◌, if◌then◌else◌, List, [], ◌∷◌, length, map, Some, None, option_map, refl, sym, ◌∙◌, ap, subst}
use Rattle.std.specs.List.{list_any, list_all}
use Rattle.std.proofs.lemmas.Option.{slice_get-map}
use Rattle.spec_model.specs.Values.{Assignment}
use Rattle.spec_model.specs.Games.{GameData, State, inputs_of, outputs_of}
use Rattle.spec_model.specs.Steps.{Before, is_state, is_input, is_output, below, states_of, reached, legal_input, legal_output}
use Rattle.spec_model.specs.Sets.{output_into, input_into, system_forces, environment_forces}
use Rattle.spec_model.proofs.Listed.{every_weaker, inputs_fit, outputs_fit, list_all-same, list_any-same}
use Rattle.region_rows.specs.declared.row.Row.{Row}
use Rattle.region_rows.specs.Rows.{bit_of, Shows}
use Rattle.game_states.specs.Numbers.{number_of_state}
use Rattle.region_rows.specs.Slots.{marked}
use Rattle.game_states.specs.Tables.{answers_of, moves_of}
use Rattle.region_rows.specs.Finds.{LeadsToStates}
use Rattle.region_rows.specs.Into.{leads, stays, system_into, environment_into}
use Rattle.game_values.proofs.Typed.{get-map-below}
use Rattle.game_states.proofs.StateNumbers.{state_here, number_below}
use Rattle.game_states.proofs.LineLaws.{get-some}

all-map : {X Y : Type 0} (p : Y → Bool) (f : X → Y) (xs : List X) → list_all p (map f xs) ≡ list_all (λ x. p (f x)) xs
all-map p f [] = refl
all-map p f (x ∷ xs) = ap (λ b. p (f x) && b) (all-map p f xs)

any-map : {X Y : Type 0} (p : Y → Bool) (f : X → Y) (xs : List X) → list_any p (map f xs) ≡ list_any (λ x. p (f x)) xs
any-map p f [] = refl
any-map p f (x ∷ xs) = ap (λ b. p (f x) || b) (any-map p f xs)

module _ (g : GameData) (b : Before) (row : Row) (leads_there : LeadsToStates g b) where
  pub leads_is : (x y : Assignment) → is_input g x ≡ true → is_output g y ≡ true → leads (bit_of row) (if legal_output g b x y then Some (number_of_state g (reached g b x y)) else None) ≡ output_into g (marked g row) b x y
  leads_is x y ex ey = at (legal_output g b x y)
    where
      here : bit_of row (number_of_state g (reached g b x y)) ≡ marked g row (reached g b x y)
      here = sym (ap (λ c. c && bit_of row (number_of_state g (reached g b x y))) (leads_there x y ex ey))

      at : (legal : Bool) → leads (bit_of row) (if legal then Some (number_of_state g (reached g b x y)) else None) ≡ (legal && marked g row (reached g b x y))
      at true = here
      at false = refl

  stays_is : (x y : Assignment) → is_input g x ≡ true → is_output g y ≡ true → stays (bit_of row) (if legal_output g b x y then Some (number_of_state g (reached g b x y)) else None) ≡ (not (legal_output g b x y) || marked g row (reached g b x y))
  stays_is x y ex ey = at (legal_output g b x y)
    where
      here : bit_of row (number_of_state g (reached g b x y)) ≡ marked g row (reached g b x y)
      here = sym (ap (λ c. c && bit_of row (number_of_state g (reached g b x y))) (leads_there x y ex ey))

      at : (legal : Bool) → stays (bit_of row) (if legal then Some (number_of_state g (reached g b x y)) else None) ≡ (not legal || marked g row (reached g b x y))
      at true = here
      at false = refl

  pub system_is : list_all (system_into (bit_of row)) (moves_of g b) ≡ system_forces g (marked g row) b
  system_is =
      all-map (system_into (bit_of row)) (λ x. if legal_input g b x then Some (answers_of g b x) else None) (inputs_of g)
      ∙ list_all-same _ _ (inputs_of g) (every_weaker (λ x. is_input g x ≡ true) _ (λ x ex. at x ex (legal_input g b x)) (inputs_of g) (inputs_fit g))
    where
      some : (x : Assignment) → is_input g x ≡ true → list_any (leads (bit_of row)) (answers_of g b x) ≡ list_any (output_into g (marked g row) b x) (outputs_of g)
      some x ex =
          any-map (leads (bit_of row)) (λ y. if legal_output g b x y then Some (number_of_state g (reached g b x y)) else None) (outputs_of g)
          ∙ list_any-same _ _ (outputs_of g) (every_weaker (λ y. is_output g y ≡ true) _ (λ y ey. leads_is x y ex ey) (outputs_of g) (outputs_fit g))

      at : (x : Assignment) → is_input g x ≡ true → (legal : Bool) → system_into (bit_of row) (if legal then Some (answers_of g b x) else None) ≡ (not legal || list_any (output_into g (marked g row) b x) (outputs_of g))
      at x ex true = some x ex
      at x ex false = refl

  all_stays : (x : Assignment) → is_input g x ≡ true → list_all (stays (bit_of row)) (answers_of g b x) ≡ list_all (λ y. not (legal_output g b x y) || marked g row (reached g b x y)) (outputs_of g)
  all_stays x ex =
      all-map (stays (bit_of row)) (λ y. if legal_output g b x y then Some (number_of_state g (reached g b x y)) else None) (outputs_of g)
      ∙ list_all-same _ _ (outputs_of g) (every_weaker (λ y. is_output g y ≡ true) _ (λ y ey. stays_is x y ex ey) (outputs_of g) (outputs_fit g))

  -- an input of the table stays in the row exactly where it forces the set
  pub environment_of : (x : Assignment) → is_input g x ≡ true → environment_into (bit_of row) (if legal_input g b x then Some (answers_of g b x) else None) ≡ input_into g (marked g row) b x
  environment_of x ex = at (legal_input g b x)
    where
      at : (legal : Bool) → environment_into (bit_of row) (if legal then Some (answers_of g b x) else None) ≡ (legal && list_all (λ y. not (legal_output g b x y) || marked g row (reached g b x y)) (outputs_of g))
      at true = all_stays x ex
      at false = refl

  pub environment_is : list_any (environment_into (bit_of row)) (moves_of g b) ≡ environment_forces g (marked g row) b
  environment_is =
      any-map (environment_into (bit_of row)) (λ x. if legal_input g b x then Some (answers_of g b x) else None) (inputs_of g)
      ∙ list_any-same _ _ (inputs_of g) (every_weaker (λ x. is_input g x ≡ true) _ (λ x ex. environment_of x ex) (inputs_of g) (inputs_fit g))

-- ---- the sets that rows mark

module _ (g : GameData) (row : Row) where
  -- a row that has the results of a test of each state
  pub marked-map : (f : State → Bool) → Shows row (map f (states_of g)) → (s : State) → marked g row s ≡ (is_state g s && f s)
  marked-map f e s = at (is_state g s) refl
    where
      bit : is_state g s ≡ true → bit_of row (number_of_state g s) ≡ f s
      bit here = e.at (number_of_state g s) ∙ get-some (map f (states_of g)) (number_of_state g s) (f s) false (slice_get-map f (states_of g) (number_of_state g s) ∙ ap (option_map f) (state_here g s here))

      at : (c : Bool) → is_state g s ≡ c → (c && bit_of row (number_of_state g s)) ≡ (c && f s)
      at true here = bit here
      at false here = refl

  -- a row that has the results of a test of each number
  pub marked-below : (f : ℕ → Bool) (n : ℕ) → n ≡ length (states_of g) → Shows row (map f (below n)) → (s : State) → marked g row s ≡ (is_state g s && f (number_of_state g s))
  marked-below f n count e s = at (is_state g s) refl
    where
      bit : is_state g s ≡ true → bit_of row (number_of_state g s) ≡ f (number_of_state g s)
      bit here = e.at (number_of_state g s) ∙ get-map-below f n (number_of_state g s) false (subst (λ k. number_of_state g s < k) (sym count) (number_below g s here))

      at : (c : Bool) → is_state g s ≡ c → (c && bit_of row (number_of_state g s)) ≡ (c && f (number_of_state g s))
      at true here = bit here
      at false here = refl
