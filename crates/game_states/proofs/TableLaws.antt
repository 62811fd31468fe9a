-- The tables of moves, by numbers, give the moves of the game.
use Rattle.std.proofs.Common.{◌≡◌, ℕ, zero, suc, ◌+◌, ◌*◌, ◌^◌, ◌<◌, ◌≤◌, Bool, true, false, ◌&&◌, if◌then◌else◌, List, [], ◌∷◌, ◌++◌, length, map, Option, Some, None, option_map, unwrap_or, slice_get, drop, refl, sym, ◌∙◌, ap, arith, append_assoc}
use Rattle.std.specs.List.{list_all}
use Rattle.std.proofs.Math.Nat.{mul-le-mul_right}
use Rattle.spec_model.specs.Values.{Assignment}
use Rattle.spec_model.specs.Games.{GameData, State, inputs_of, outputs_of}
use Rattle.spec_model.specs.Steps.{Before, are_hidden_values, states_of, reached, legal_input, legal_output, assumptions_hold, guarantees_hold}
use Rattle.spec_model.specs.WellMade.{WellMade}
use Rattle.game_states.specs.Numbers.{place_in, as_values, hidden_choices, number_at, number_of_state}
use Rattle.game_values.specs.Lines.{IsThere, IsBefore}
use Rattle.game_states.specs.Seen.{state_with}
use Rattle.game_states.specs.Tables.{before_of, judged, spread, is_legal_from, answer_at, answers_from, input_moves_from, moves_from, answers_of, moves_of}
use Rattle.game_states.proofs.StateNumbers.{get-states, hidden_here, number_reached}

-- ---- lists by rising numbers

pub spread-map : {V X Y : Type 0} (f : ℕ → Y) (items : V → X) (k : ℕ) (vs : List V) → spread f k (map items vs) ≡ spread f k vs
spread-map f items k [] = refl
spread-map f items k (v ∷ vs) = ap (λ r. f k ∷ r) (spread-map f items (suc k) vs)

spread_is : {X Y : Type 0} (f : ℕ → Y) (f' : X → Y) (k : ℕ) (xs : List X) → ((i : ℕ) (x : X) → slice_get xs i ≡ Some x → f (k + i) ≡ f' x) → spread f k xs ≡ map f' xs
spread_is f f' k [] same = refl
spread_is f f' k (x ∷ xs) same =
    let here : k + 0 ≡ k = omega arith in
    ap (λ y. y ∷ spread f (suc k) xs) (ap f (sym here) ∙ same 0 x refl)
    ∙ ap (λ r. f' x ∷ r) (spread_is f f' (suc k) xs (λ i z e. let next : suc k + i ≡ k + suc i = omega arith in ap f next ∙ same (suc i) z e))

pub spread-is : {X Y : Type 0} (f : ℕ → Y) (f' : X → Y) (xs : List X) → ((i : ℕ) (x : X) → slice_get xs i ≡ Some x → f i ≡ f' x) → spread f 0 xs ≡ map f' xs
spread-is f f' xs same = spread_is f f' 0 xs (λ i x e. let here : 0 + i ≡ i = omega arith in ap f here ∙ same i x e)

spread_at : {X Y : Type 0} (f : ℕ → Y) (k i : ℕ) (xs : List X) → i < length xs → spread f (k + i) (drop i xs) ≡ f (k + i) ∷ spread f (suc (k + i)) (drop (suc i) xs)
spread_at f k i [] h = absurd (omega arith)
spread_at f k zero (x ∷ xs) h = refl
spread_at f k (suc i) (x ∷ xs) h =
    let next : k + suc i ≡ suc k + i = omega arith in
    rw next (spread_at f (suc k) i xs (omega arith))

-- one more of them
pub spread_drop : {X Y : Type 0} (f : ℕ → Y) (i : ℕ) (xs : List X) → i < length xs → spread f i (drop i xs) ≡ f i ∷ spread f (i + 1) (drop (i + 1) xs)
spread_drop f i xs h = let here : 0 + i ≡ i = omega arith in let next : i + 1 ≡ suc i = omega arith in rw next (rw here at (spread_at f 0 i xs h))

pub spread_push : {X Y : Type 0} (f : ℕ → Y) (i : ℕ) (xs : List X) (row w : List Y) (y : Y) → i < length xs → y ≡ f i → row ++ spread f i (drop i xs) ≡ w → (row ++ y ∷ []) ++ spread f (i + 1) (drop (i + 1) xs) ≡ w
spread_push f i xs row w y h is so_far =
    append_assoc row (y ∷ []) (spread f (i + 1) (drop (i + 1) xs))
    ∙ (ap (λ z. row ++ z ∷ spread f (i + 1) (drop (i + 1) xs)) is
    ∙ (ap (λ r. row ++ r) (sym (spread_drop f i xs h)) ∙ so_far))

-- past the end there is nothing
pub spread_past : {X Y : Type 0} (f : ℕ → Y) (k i : ℕ) (xs : List X) → length xs ≤ i → spread f k (drop i xs) ≡ []
spread_past f k zero [] h = refl
spread_past f k (suc i) [] h = refl
spread_past f k zero (x ∷ xs) h = absurd (omega arith)
spread_past f k (suc i) (x ∷ xs) h = spread_past f k i xs (omega arith)

-- ---- room for the numbers

pub room : (h i o H I : ℕ) → h < H → i < I → h * (I * o) + (i * o + 0) + o ≤ H * (I * o)
room h i o H I below below' =
    let row : (i + 1) * o ≤ I * o = mul-le-mul_right o (omega arith) in
    let block : (h + 1) * (I * o) ≤ H * (I * o) = mul-le-mul_right (I * o) (omega arith) in
    let row_is : (i + 1) * o ≡ i * o + o = grind arith in
    let block_is : (h + 1) * (I * o) ≡ h * (I * o) + I * o = grind arith in
    omega (arith, row, block, row_is, block_is)

pub room_fits : (h i o H I n : ℕ) → h < H → i < I → n ≡ H * (I * o) → n < 2 ^ 64 → (I * o < 2 ^ 64) × (h * (I * o) < 2 ^ 64) × (i * o < 2 ^ 64) × (h * (I * o) + i * o < 2 ^ 64) × (h * (I * o) + i * o + o ≤ n)
room_fits h i o H I n below below' is small =
    let all = room h i o H I below below' in
    let one : 1 * (I * o) ≤ H * (I * o) = mul-le-mul_right (I * o) (omega arith) in
    let one_is : 1 * (I * o) ≡ I * o = grind arith in
    (omega (arith, one, one_is), omega (arith, all), omega (arith, all), omega (arith, all), omega (arith, all))

pub there_from : (n : ℕ) (before : Option ℕ) (at : ℕ) → IsBefore n before → at < n → IsThere n before at
there_from n None at b h = h
there_from n (Some from) at b h = (b, h)

-- ---- the moves

list_all-map : {X : Type 0} (p : X → Bool) (ys : List X) → list_all (λ b. b) (map p ys) ≡ list_all p ys
list_all-map p [] = refl
list_all-map p (y ∷ ys) = ap (λ b. p y && b) (list_all-map p ys)

module _ (g : GameData) (made : WellMade g) (before : Option ℕ) (b : Before) (is_before : before_of g before ≡ b) (hidden : List ℕ) (fit : are_hidden_values g.hidden hidden ≡ true) (leads : (x y : Assignment) → reached g b x y ≡ state_with hidden x y) where
  state_there : (i k : ℕ) (x y : Assignment) → slice_get (inputs_of g) i ≡ Some x → slice_get (outputs_of g) k ≡ Some y → slice_get (states_of g) (number_at g (place_in (hidden_choices g) (as_values hidden)) i 0 + k) ≡ Some (reached g b x y)
  state_there i k x y ex ey =
      let at : number_at g (place_in (hidden_choices g) (as_values hidden)) i 0 + k ≡ number_at g (place_in (hidden_choices g) (as_values hidden)) i k = omega arith in
      ap (slice_get (states_of g)) at ∙ (get-states g (place_in (hidden_choices g) (as_values hidden)) i k hidden x y (hidden_here g hidden fit) ex ey ∙ ap Some (sym (leads x y)))

  judged_there : (test : State → Bool) (i k : ℕ) (x y : Assignment) → slice_get (inputs_of g) i ≡ Some x → slice_get (outputs_of g) k ≡ Some y → judged g test (number_at g (place_in (hidden_choices g) (as_values hidden)) i 0 + k) ≡ test (reached g b x y)
  judged_there test i k x y ex ey = ap (λ o. unwrap_or (option_map test o) false) (state_there i k x y ex ey)

  legal_is : (i : ℕ) (x : Assignment) → slice_get (inputs_of g) i ≡ Some x → is_legal_from g before (number_at g (place_in (hidden_choices g) (as_values hidden)) i 0) ≡ legal_input g b x
  legal_is i x ex =
      ap (list_all (λ b. b)) (spread-is (λ k. judged g (assumptions_hold g (before_of g before)) (number_at g (place_in (hidden_choices g) (as_values hidden)) i 0 + k)) (λ y. assumptions_hold g b (reached g b x y)) (outputs_of g)
      (λ k y ey. judged_there (assumptions_hold g (before_of g before)) i k x y ex ey ∙ ap (λ c. assumptions_hold g c (reached g b x y)) is_before))
      ∙ list_all-map (λ y. assumptions_hold g b (reached g b x y)) (outputs_of g)

  number_there : (i k : ℕ) (x y : Assignment) → slice_get (inputs_of g) i ≡ Some x → slice_get (outputs_of g) k ≡ Some y → number_at g (place_in (hidden_choices g) (as_values hidden)) i 0 + k ≡ number_of_state g (reached g b x y)
  number_there i k x y ex ey =
      let at : number_at g (place_in (hidden_choices g) (as_values hidden)) i 0 + k ≡ number_at g (place_in (hidden_choices g) (as_values hidden)) i k = omega arith in
      at ∙ (sym (number_reached g made hidden i k x y ex ey) ∙ ap (number_of_state g) (sym (leads x y)))

  answers_are : (i : ℕ) (x : Assignment) → slice_get (inputs_of g) i ≡ Some x → answers_from g before (number_at g (place_in (hidden_choices g) (as_values hidden)) i 0) ≡ answers_of g b x
  answers_are i x ex =
      spread-is (λ k. answer_at g before (number_at g (place_in (hidden_choices g) (as_values hidden)) i 0 + k)) (λ y. if legal_output g b x y then Some (number_of_state g (reached g b x y)) else None) (outputs_of g)
      (λ k y ey.
      ap (λ t. if t then Some (number_at g (place_in (hidden_choices g) (as_values hidden)) i 0 + k) else None) (judged_there (guarantees_hold g (before_of g before)) i k x y ex ey ∙ ap (λ c. guarantees_hold g c (reached g b x y)) is_before)
      ∙ ap (λ n. if legal_output g b x y then Some n else None) (number_there i k x y ex ey))

  -- the table of a state, or of the first move
  pub moves_are : moves_from g before (place_in (hidden_choices g) (as_values hidden)) ≡ moves_of g b
  moves_are =
      spread-is (λ i. input_moves_from g before (number_at g (place_in (hidden_choices g) (as_values hidden)) i 0)) (λ x. if legal_input g b x then Some (answers_of g b x) else None) (inputs_of g)
      (λ i x ex.
      ap (λ t. if t then Some (answers_from g before (number_at g (place_in (hidden_choices g) (as_values hidden)) i 0)) else None) (legal_is i x ex)
      ∙ ap (λ a. if legal_input g b x then Some a else None) (answers_are i x ex))

pub append-nothing : {X : Type 0} (xs : List X) → xs ++ [] ≡ xs
append-nothing [] = refl
append-nothing (x ∷ xs) = ap (λ ys. x ∷ ys) (append-nothing xs)
