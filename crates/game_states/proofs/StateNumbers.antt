-- The states of a game by their numbers.
use Rattle.std.proofs.Common.{◌≡◌, ℕ, zero, suc, ◌+◌, ◌*◌, ◌-◌, ◌<◌, ◌≤◌, Bool, true, false, not, ◌&&◌, if◌then◌else◌, List, [], ◌∷◌, length, map, flat_map, Some, option_map, slice_get, refl, sym, ◌∙◌, ap, arith, ◌++◌, ◌⊎◌, inl, inr}
use Rattle.std.specs.List.{list_all}
use Rattle.std.proofs.lemmas.Bool.{and_parts, and_from}
use Rattle.std.proofs.lemmas.List.{length-map}
use Rattle.std.proofs.lemmas.Option.{slice_get-map}
use Rattle.spec_model.specs.declared.value.Owner.{Owner}
use Rattle.spec_model.specs.Values.{Assignment}
use Rattle.spec_model.specs.Syntax.{VariableData}
use Rattle.spec_model.specs.Moves.{is_env, domains_of}
use Rattle.spec_model.specs.Games.{GameData, State, inputs_of, outputs_of}
use Rattle.spec_model.specs.Steps.{is_state, is_input, is_output, hidden_values, states_of, are_hidden_values}
use Rattle.spec_model.specs.WellMade.{WellMade, is_domain, all_differ}
use Rattle.game_states.specs.Seen.{state_with}
use Rattle.game_states.specs.Numbers.{same_values, place_in, as_values, hidden_choices, number_at, number_of_state}
use Rattle.game_states.proofs.ChoicePlaces.{at_place, assignment_among, hidden_among, assignments_differ, hidden_differ, place-at, get-grid, length-grid}

-- ---- the domains of a well-made game

domains_made : (test : Owner → Bool) (vs : List VariableData) → list_all (λ v. is_domain v.domain) vs ≡ true → list_all is_domain (domains_of test vs) ≡ true
domains_made test [] e = refl
domains_made test (v ∷ vs) e =
    let parts = and_parts (is_domain v.domain) (list_all (λ v. is_domain v.domain) vs) e in
    at (test v.owner) (and_from _ _ parts.0 (domains_made test vs parts.1)) (domains_made test vs parts.1)
  where
    at : (b : Bool) → list_all is_domain (v.domain ∷ domains_of test vs) ≡ true → list_all is_domain (domains_of test vs) ≡ true → list_all is_domain (if b then v.domain ∷ domains_of test vs else domains_of test vs) ≡ true
    at true with_it without = with_it
    at false with_it without = without

pub inputs_differ : (g : GameData) → WellMade g → all_differ same_values (inputs_of g) ≡ true
inputs_differ g made = assignments_differ (domains_of is_env g.variables) (domains_made is_env g.variables made.domains)

pub outputs_differ : (g : GameData) → WellMade g → all_differ same_values (outputs_of g) ≡ true
outputs_differ g made = assignments_differ (domains_of (λ o. not (is_env o)) g.variables) (domains_made (λ o. not (is_env o)) g.variables made.domains)

-- ---- places

some_of-map : {X Y : Type 0} (f : X → Y) (xs : List X) (i : ℕ) (y : Y) → ((x x' : X) → f x ≡ f x' → x ≡ x') → (x : X) → slice_get (map f xs) i ≡ Some (f x) → slice_get xs i ≡ Some x
some_of-map f [] i y same x e = cc (e)
some_of-map f (z ∷ xs) zero y same x e = let is : f z ≡ f x = cc (e) in ap Some (same z x is)
some_of-map f (z ∷ xs) (suc i) y same x e = some_of-map f xs i y same x e

as_values-same : (vs ws : List ℕ) → as_values vs ≡ as_values ws → vs ≡ ws
as_values-same [] [] e = refl
as_values-same [] (w ∷ ws) e = cc (e)
as_values-same (v ∷ vs) [] e = cc (e)
as_values-same (v ∷ vs) (w ∷ ws) e =
    let head : v ≡ w = cc (e) in
    let rest : as_values vs ≡ as_values ws = cc (e) in
    let tail = as_values-same vs ws rest in cc

module _ (g : GameData) where
  -- the states with given hidden values and input, and with given hidden values
  abbrev at_input : List ℕ → Assignment → List State
  at_input h x = map (λ y. state_with h x y) (outputs_of g)

  abbrev at_hidden : List ℕ → List State
  at_hidden h = flat_map (at_input h) (inputs_of g)

  length-at_input : (h : List ℕ) (x : Assignment) → length (at_input h x) ≡ length (outputs_of g)
  length-at_input h x = length-map (outputs_of g) (λ y. state_with h x y)

  length-at_hidden : (h : List ℕ) → length (at_hidden h) ≡ length (inputs_of g) * length (outputs_of g)
  length-at_hidden h = length-grid (at_input h) (length (outputs_of g)) (length-at_input h) (inputs_of g)

  -- the number of all states
  pub length-states : length (states_of g) ≡ length (hidden_values g.hidden) * (length (inputs_of g) * length (outputs_of g))
  length-states = length-grid at_hidden (length (inputs_of g) * length (outputs_of g)) length-at_hidden (hidden_values g.hidden)

  -- the state at three places
  pub get-states : (i j k : ℕ) (h : List ℕ) (x y : Assignment) → slice_get (hidden_values g.hidden) i ≡ Some h → slice_get (inputs_of g) j ≡ Some x → slice_get (outputs_of g) k ≡ Some y →
      slice_get (states_of g) (number_at g i j k) ≡ Some (state_with h x y)
  get-states i j k h x y eh ex ey =
      get-grid at_hidden (length (inputs_of g) * length (outputs_of g)) length-at_hidden (hidden_values g.hidden) i (j * length (outputs_of g) + k) h (state_with h x y) eh
      (get-grid (at_input h) (length (outputs_of g)) (length-at_input h) (inputs_of g) j k x (state_with h x y) ex (slice_get-map (λ y. state_with h x y) (outputs_of g) k ∙ ap (option_map (λ y. state_with h x y)) ey))

  pub hidden_here : (vs : List ℕ) → are_hidden_values g.hidden vs ≡ true → slice_get (hidden_values g.hidden) (place_in (hidden_choices g) (as_values vs)) ≡ Some vs
  hidden_here vs e = some_of-map as_values (hidden_values g.hidden) (place_in (hidden_choices g) (as_values vs)) [] as_values-same vs (at_place (hidden_choices g) (as_values vs) (hidden_among g.hidden vs e))

  pub input_here : (x : Assignment) → is_input g x ≡ true → slice_get (inputs_of g) (place_in (inputs_of g) x) ≡ Some x
  input_here x e = at_place (inputs_of g) x (assignment_among (domains_of is_env g.variables) x e)

  pub output_here : (y : Assignment) → is_output g y ≡ true → slice_get (outputs_of g) (place_in (outputs_of g) y) ≡ Some y
  output_here y e = at_place (outputs_of g) y (assignment_among (domains_of (λ o. not (is_env o)) g.variables) y e)

  -- a state stands at its number
  pub state_here : (s : State) → is_state g s ≡ true → slice_get (states_of g) (number_of_state g s) ≡ Some s
  state_here s e =
      let parts = and_parts (are_hidden_values g.hidden s.hidden) (is_input g s.position.input && is_output g s.position.output) e in
      let moves = and_parts (is_input g s.position.input) (is_output g s.position.output) parts.1 in
      get-states (place_in (hidden_choices g) (as_values s.hidden)) (place_in (inputs_of g) s.position.input) (place_in (outputs_of g) s.position.output) s.hidden s.position.input s.position.output
      (hidden_here s.hidden parts.0) (input_here s.position.input moves.0) (output_here s.position.output moves.1)

  below_length : {X : Type 0} (xs : List X) (i : ℕ) (x : X) → slice_get xs i ≡ Some x → i < length xs
  below_length [] i x e = cc (e)
  below_length (y ∷ xs) zero x e = omega arith
  below_length (y ∷ xs) (suc i) x e = let more = below_length xs i x e in omega (arith, more)

  pub number_below : (s : State) → is_state g s ≡ true → number_of_state g s < length (states_of g)
  number_below s e = below_length (states_of g) (number_of_state g s) s (state_here s e)

  -- the number of a state that is reached, by the places of the moves
  pub number_reached : WellMade g → (h : List ℕ) (j k : ℕ) (x y : Assignment) → slice_get (inputs_of g) j ≡ Some x → slice_get (outputs_of g) k ≡ Some y →
      number_of_state g (state_with h x y) ≡ number_at g (place_in (hidden_choices g) (as_values h)) j k
  number_reached made h j k x y ex ey =
      ap (λ i. number_at g (place_in (hidden_choices g) (as_values h)) i (place_in (outputs_of g) y)) (place-at (inputs_of g) (inputs_differ g made) j x ex)
      ∙ ap (λ i. number_at g (place_in (hidden_choices g) (as_values h)) j i) (place-at (outputs_of g) (outputs_differ g made) k y ey)

-- ---- states differ

get-past-left : {A : Type 0} (xs ys : List A) (k : ℕ) → length xs ≤ k → slice_get (xs ++ ys) k ≡ slice_get ys (k - length xs)
get-past-left [] ys k h = let e : k - 0 ≡ k = omega arith in ap (slice_get ys) (sym e)
get-past-left (x ∷ xs) ys zero h = absurd (omega arith)
get-past-left (x ∷ xs) ys (suc k) h = let e : k - length xs ≡ suc k - suc (length xs) = omega arith in get-past-left xs ys k (omega arith) ∙ ap (slice_get ys) e

get-in-left : {A : Type 0} (xs ys : List A) (k : ℕ) → k < length xs → slice_get (xs ++ ys) k ≡ slice_get xs k
get-in-left [] ys k h = absurd (omega arith)
get-in-left (x ∷ xs) ys zero h = refl
get-in-left (x ∷ xs) ys (suc k) h = get-in-left xs ys k (omega arith)

pub record InGrid {X A : Type 0} (f : X → List A) (n : ℕ) (xs : List X) (k : ℕ) (a : A) : Type 0 where
  pub row : ℕ
  pub column : ℕ
  pub at : X
  pub of_row : slice_get xs row ≡ Some at
  pub of_column : slice_get (f at) column ≡ Some a
  pub place : k ≡ row * n + column

get-in-grid : {X A : Type 0} (f : X → List A) (n : ℕ) → ((x : X) → length (f x) ≡ n) → (xs : List X) (k : ℕ) (a : A) → slice_get (flat_map f xs) k ≡ Some a → InGrid f n xs k a
get-in-grid f n long [] k a e = cc (e)
get-in-grid f n long (x ∷ xs) k a e = by_cases in_or_past (λ j h. get-in-grid f n long xs j a h)
  where
    in_or_past : (k < length (f x)) ⊎ (length (f x) ≤ k)
    in_or_past = grind arith

    by_cases : (k < length (f x)) ⊎ (length (f x) ≤ k) → ((j : ℕ) → slice_get (flat_map f xs) j ≡ Some a → InGrid f n xs j a) → InGrid f n (x ∷ xs) k a
    by_cases (inl less) later = record { row = 0; column = k; at = x; of_row = refl; of_column = sym (get-in-left (f x) (flat_map f xs) k less) ∙ e; place = omega arith }
    by_cases (inr past) later =
        let rest = later (k - length (f x)) (sym (get-past-left (f x) (flat_map f xs) k past) ∙ e) in
        let long_is = long x in
        let at = rest.place in
        record { row = suc rest.row; column = rest.column; at = rest.at; of_row = rest.of_row; of_column = rest.of_column; place = next rest.row rest.column (length (f x)) past at long_is }
      where
        next : (i j m : ℕ) → m ≤ k → k - m ≡ i * n + j → m ≡ n → k ≡ suc i * n + j
        next i j m h e is = let step : suc i * n ≡ n + i * n = grind arith in omega (arith, h, e, is, step)

pub map-get : {X Y : Type 0} (f : X → Y) (xs : List X) (k : ℕ) (y : Y) → slice_get (map f xs) k ≡ Some y → (x : X) × (slice_get xs k ≡ Some x) × (f x ≡ y)
map-get f [] k y e = cc (e)
map-get f (x ∷ xs) zero y e = (x, refl, cc (e))
map-get f (x ∷ xs) (suc k) y e = map-get f xs k y e

-- the state at a number has that number
pub number-of : (g : GameData) → WellMade g → (k : ℕ) (s : State) → slice_get (states_of g) k ≡ Some s → number_of_state g s ≡ k
number-of g made k s e =
    let outer = get-in-grid (at_hidden g) (length (inputs_of g) * length (outputs_of g)) (length-at_hidden g) (hidden_values g.hidden) k s e in
    let inner = get-in-grid (at_input g outer.at) (length (outputs_of g)) (length-at_input g outer.at) (inputs_of g) outer.column s outer.of_column in
    let last = map-get (λ y. state_with outer.at inner.at y) (outputs_of g) inner.column s inner.of_column in
    let hidden_at : slice_get (hidden_choices g) outer.row ≡ Some (as_values outer.at) = slice_get-map as_values (hidden_values g.hidden) outer.row ∙ ap (option_map as_values) outer.of_row in
    let h = place-at (hidden_choices g) (hidden_differ g.hidden) outer.row (as_values outer.at) hidden_at in
    let i = place-at (inputs_of g) (inputs_differ g made) inner.row inner.at inner.of_row in
    let o = place-at (outputs_of g) (outputs_differ g made) inner.column last.0 last.1 in
    ap (number_of_state g) (sym last.2)
    ∙ (ap (λ n. number_at g n (place_in (inputs_of g) inner.at) (place_in (outputs_of g) last.0)) h
    ∙ (ap (λ n. number_at g outer.row n (place_in (outputs_of g) last.0)) i
    ∙ (ap (λ n. number_at g outer.row inner.row n) o
    ∙ (ap (λ n. outer.row * (length (inputs_of g) * length (outputs_of g)) + n) (sym inner.place) ∙ sym outer.place))))
