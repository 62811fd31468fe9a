-- What is found first among listed moves.
use Rattle.std.proofs.Common.{◌≡◌, ℕ, zero, suc, ◌<◌, ◌≤◌, Bool, true, false, ◌&&◌, if◌then◌else◌, List, [], ◌∷◌, length, map, Option, Some, None, slice_get, get_or, find, refl, sym, ◌∙◌, ap, arith}
use Rattle.std.proofs.Math.Bool.{and-false}
use Rattle.std.proofs.lemmas.Bool.{false≢true}
use Rattle.spec_model.specs.declared.value.Value.{Value}
use Rattle.spec_model.specs.Values.{Assignment}
use Rattle.spec_model.specs.Moves.{is_env, domains_of}
use Rattle.spec_model.specs.Games.{GameData, State, listed, inputs_of, outputs_of}
use Rattle.spec_model.specs.Steps.{Before, is_state, is_input, is_output, legal_input, legal_output, reached}
use Rattle.spec_model.specs.Sets.{StateSet, output_into, input_into}
use Rattle.spec_model.proofs.AllStates.{Every}
use Rattle.spec_model.proofs.Listed.{every_weaker, inputs_fit, outputs_fit}
use Rattle.regions.specs.declared.types.When.{When}
use Rattle.regions.specs.declared.types.When.TheVariants.{First, Later}
use Rattle.regions.specs.Rules.{is_time, outputs_into, inputs_into, AreBefore}
use Rattle.region_rows.specs.declared.row.Row.{Row}
use Rattle.region_rows.specs.Rows.{bit_of}
use Rattle.game_states.specs.Numbers.{same_values, place_in, number_of_state}
use Rattle.region_rows.specs.Slots.{marked}
use Rattle.game_states.specs.Tables.{answers_of, moves_of}
use Rattle.region_rows.specs.Into.{leads, environment_into, first_place}
use Rattle.region_rows.specs.Finds.{LeadsToStates, output_test, input_test}
use Rattle.game_states.proofs.ChoicePlaces.{same_values-true, place_below, assignment_among}
use Rattle.game_states.proofs.StateNumbers.{map-get}
use Rattle.region_rows.proofs.IntoLaws.{leads_is, environment_of}

-- ---- lists

pub find-first : {X : Type 0} (p : X → Bool) (xs : List X) → find p xs ≡ slice_get xs (first_place p xs)
find-first p [] = refl
find-first p (x ∷ xs) = at (p x) (find-first p xs)
  where
    at : (b : Bool) → find p xs ≡ slice_get xs (first_place p xs) → (if b then Some x else find p xs) ≡ slice_get (x ∷ xs) (if b then 0 else suc (first_place p xs))
    at true e = refl
    at false e = e

pub find-same : {X : Type 0} (p q : X → Bool) (xs : List X) → Every (λ x. p x ≡ q x) xs → find p xs ≡ find q xs
find-same p q [] all = refl
find-same p q (x ∷ xs) all = ap (λ b. if b then Some x else find p xs) all.0 ∙ ap (λ r. if q x then Some x else r) (find-same p q xs all.1)

every_of : {X : Type 0} {P : X → Type 0} → ((x : X) → P x) → (xs : List X) → Every P xs
every_of all [] = tt
every_of all (x ∷ xs) = (all x, every_of all xs)

pub find-none : {X : Type 0} (p : X → Bool) (xs : List X) → ((x : X) → p x ≡ false) → find p xs ≡ None
find-none p [] none = refl
find-none p (x ∷ xs) none = ap (λ b. if b then Some x else find p xs) (none x) ∙ find-none p xs none

first_place-map : {X Y : Type 0} (p : Y → Bool) (f : X → Y) (xs : List X) → first_place p (map f xs) ≡ first_place (λ x. p (f x)) xs
first_place-map p f [] = refl
first_place-map p f (x ∷ xs) = ap (λ n. if p (f x) then 0 else suc n) (first_place-map p f xs)

first_place-same : {X : Type 0} (p q : X → Bool) (xs : List X) → Every (λ x. p x ≡ q x) xs → first_place p xs ≡ first_place q xs
first_place-same p q [] all = refl
first_place-same p q (x ∷ xs) all = ap (λ b. if b then 0 else suc (first_place p xs)) all.0 ∙ ap (λ n. if q x then 0 else suc n) (first_place-same p q xs all.1)

-- ---- places

pub placed : (cs : List (List Value)) (c d : List Value) (i : ℕ) → place_in cs c ≡ i → slice_get cs i ≡ Some d → d ≡ c
placed [] c d i e h = cc (h)
placed (x ∷ cs) c d i e h = at (same_values x c) refl i e h (λ j e h. placed cs c d j e h)
  where
    at : (b : Bool) → same_values x c ≡ b → (i : ℕ) → (if b then 0 else suc (place_in cs c)) ≡ i → slice_get (x ∷ cs) i ≡ Some d → ((j : ℕ) → place_in cs c ≡ j → slice_get cs j ≡ Some d → d ≡ c) → d ≡ c
    at true is zero e h more = let one : x ≡ d = cc (h) in sym one ∙ same_values-true x c is
    at true is (suc j) e h more = absurd (omega (arith, e))
    at false is zero e h more = absurd (omega (arith, e))
    at false is (suc j) e h more = more j (omega (arith, e)) h

-- ---- the first output

module _ (g : GameData) (b : Before) (t : Row) (leads_there : LeadsToStates g b) where
  pub output_found : (x : Assignment) → is_input g x ≡ true → legal_input g b x ≡ true → slice_get (outputs_of g) (first_place (leads (bit_of t)) (answers_of g b x)) ≡ find (output_test g (marked g t) b x) (outputs_of g)
  output_found x ex legal =
      ap (slice_get (outputs_of g)) (first_place-map (leads (bit_of t)) (λ y. if legal_output g b x y then Some (number_of_state g (reached g b x y)) else None) (outputs_of g)
      ∙ first_place-same _ (output_test g (marked g t) b x) (outputs_of g) (every_weaker (λ y. is_output g y ≡ true) _ (λ y ey.
      leads_is g b t leads_there x y ex ey
      ∙ (ap (λ c. c && output_into g (marked g t) b x y) (sym ey)
      ∙ (ap (λ c. c && (is_output g y && output_into g (marked g t) b x y)) (sym legal)
      ∙ ap (λ c. c && (legal_input g b x && (is_output g y && output_into g (marked g t) b x y))) (sym ex)))) (outputs_of g) (outputs_fit g)))
      ∙ sym (find-first (output_test g (marked g t) b x) (outputs_of g))

  pub illegal_none : (x : Assignment) → legal_input g b x ≡ false → find (output_test g (marked g t) b x) (outputs_of g) ≡ None
  illegal_none x illegal = find-none (output_test g (marked g t) b x) (outputs_of g) (λ y. ap (λ c. is_input g x && (c && (is_output g y && output_into g (marked g t) b x y))) illegal ∙ and-false (is_input g x))

  pub no_input_none : (x : Assignment) → is_input g x ≡ false → find (output_test g (marked g t) b x) (outputs_of g) ≡ None
  no_input_none x none = find-none (output_test g (marked g t) b x) (outputs_of g) (λ y. ap (λ c. c && (legal_input g b x && (is_output g y && output_into g (marked g t) b x y))) none)

  pub input_found : slice_get (inputs_of g) (first_place (environment_into (bit_of t)) (moves_of g b)) ≡ find (input_test g (marked g t) b) (inputs_of g)
  input_found =
      ap (slice_get (inputs_of g)) (first_place-map (environment_into (bit_of t)) (λ x. if legal_input g b x then Some (answers_of g b x) else None) (inputs_of g)
      ∙ first_place-same _ (input_test g (marked g t) b) (inputs_of g) (every_weaker (λ x. is_input g x ≡ true) _ (λ x ex.
      environment_of g b t leads_there x ex ∙ ap (λ c. c && input_into g (marked g t) b x) (sym ex)) (inputs_of g) (inputs_fit g)))
      ∙ sym (find-first (input_test g (marked g t) b) (inputs_of g))

-- a legal input's answers in the table, or none
pub row_at : (g : GameData) (b : Before) (ms : List (Option (List (Option ℕ)))) → ms ≡ moves_of g b → (i : ℕ) (m : Option (List (Option ℕ))) → slice_get ms i ≡ Some m →
    (x : Assignment) × (slice_get (inputs_of g) i ≡ Some x) × ((if legal_input g b x then Some (answers_of g b x) else None) ≡ m)
row_at g b ms e i m h = map-get (λ x. if legal_input g b x then Some (answers_of g b x) else None) (inputs_of g) i m (ap (λ l. slice_get l i) (sym e) ∙ h)

pub legal_row : (g : GameData) (b : Before) (x : Assignment) (answers : List (Option ℕ)) → (if legal_input g b x then Some (answers_of g b x) else None) ≡ Some answers → (legal_input g b x ≡ true) × (answers_of g b x ≡ answers)
legal_row g b x answers e = at (legal_input g b x) refl e
  where
    at : (c : Bool) → legal_input g b x ≡ c → (if c then Some (answers_of g b x) else None) ≡ Some answers → (legal_input g b x ≡ true) × (answers_of g b x ≡ answers)
    at true is e = (is, cc (e))
    at false is e = cc (e)

pub illegal_row : (g : GameData) (b : Before) (x : Assignment) → (if legal_input g b x then Some (answers_of g b x) else None) ≡ None → legal_input g b x ≡ false
illegal_row g b x e = at (legal_input g b x) refl e
  where
    at : (c : Bool) → legal_input g b x ≡ c → (if c then Some (answers_of g b x) else None) ≡ None → legal_input g b x ≡ false
    at true is e = cc (e)
    at false is e = is

-- an input that isn't among the listed ones is none
pub past_inputs : (g : GameData) (x : Assignment) → length (inputs_of g) ≤ place_in (inputs_of g) x → is_input g x ≡ false
past_inputs g x past = at (is_input g x) refl
  where
    at : (c : Bool) → is_input g x ≡ c → is_input g x ≡ false
    at false e = e
    at true e = let below = place_below (inputs_of g) x (assignment_among (domains_of is_env g.variables) x e) in absurd (omega (arith, below, past))

-- ---- by time

module _ (g : GameData) (t : StateSet) (values : List Value) where
  outputs_in_time : (x : Assignment) (when : When) (b : Before) → is_time g when b ≡ true → find (outputs_into g when t b x) (outputs_of g) ≡ find (output_test g t b x) (outputs_of g)
  outputs_in_time x when b time = find-same _ (output_test g t b x) (outputs_of g) (every_of (λ y. ap (λ c. c && output_test g t b x y) time) (outputs_of g))

  inputs_in_time : (when : When) (b : Before) → is_time g when b ≡ true → find (inputs_into g when t b) (inputs_of g) ≡ find (input_test g t b) (inputs_of g)
  inputs_in_time when b time = find-same _ (input_test g t b) (inputs_of g) (every_of (λ x. ap (λ c. c && input_test g t b x) time) (inputs_of g))

  -- at the first move nothing is before
  pub first_outputs : (x : Assignment) (b : Before) → AreBefore g First b values → find (outputs_into g First t b x) (outputs_of g) ≡ find (output_test g t None x) (outputs_of g)
  first_outputs x None before = outputs_in_time x First None before.time
  first_outputs x (Some s) before = absurd (false≢true before.time)

  pub first_inputs : (b : Before) → AreBefore g First b values → find (inputs_into g First t b) (inputs_of g) ≡ find (input_test g t None) (inputs_of g)
  first_inputs None before = inputs_in_time First None before.time
  first_inputs (Some s) before = absurd (false≢true before.time)

  -- later a state is
  pub later_outputs : (x : Assignment) (b : Before) (found : Option Assignment) → AreBefore g Later b values →
      ((s : State) → is_state g s ≡ true → listed s ≡ values → found ≡ find (output_test g t (Some s) x) (outputs_of g)) → find (outputs_into g Later t b x) (outputs_of g) ≡ found
  later_outputs x None found before after_it = absurd (false≢true before.time)
  later_outputs x (Some s) found before after_it = outputs_in_time x Later (Some s) before.time ∙ sym (after_it s before.time before.listed)

  pub later_inputs : (b : Before) (found : Option Assignment) → AreBefore g Later b values →
      ((s : State) → is_state g s ≡ true → listed s ≡ values → found ≡ find (input_test g t (Some s)) (inputs_of g)) → find (inputs_into g Later t b) (inputs_of g) ≡ found
  later_inputs None found before after_it = absurd (false≢true before.time)
  later_inputs (Some s) found before after_it = inputs_in_time Later (Some s) before.time ∙ sym (after_it s before.time before.listed)

-- the default of a place that is there doesn't matter
pub get-default : {X : Type 0} (xs : List X) (i : ℕ) (d e : X) → i < length xs → get_or xs i d ≡ get_or xs i e
get-default [] i d e h = absurd (omega arith)
get-default (x ∷ xs) zero d e h = refl
get-default (x ∷ xs) (suc i) d e h = get-default xs i d e (omega arith)
