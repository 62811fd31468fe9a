-- What functions of the present and the next bits tell of moves.
use Rattle.std.specs.Prelude.{◌≡◌, ℕ, ◌==◌, Bool, true, false, not, ◌&&◌, List, [], ◌∷◌, Some, None}
use Rattle.std.specs.List.{list_any}
use Rattle.spec_model.specs.Values.{Assignment}
use Rattle.spec_model.specs.Diagrams.{Bits, Function}
use Rattle.spec_model.specs.Games.{GameData, State, inputs_of, outputs_of}
use Rattle.spec_model.specs.Steps.{Before, is_state, reached, legal_input, legal_output}
use Rattle.spec_model.specs.Sets.{StateSet}
use Rattle.regions.specs.declared.types.When.{When}
use Rattle.regions.specs.Rules.{is_time}
use Rattle.game_values.specs.declared.seen.At.TheVariants.{Now, Next}
use Rattle.bdd_sets.specs.StateBits.{HasState}

-- the present bits are those of the state before; before the first move they are any
abbrev pub HasBefore : GameData → Before → Bits → Type 0
HasBefore g None bits = Unit {0}
HasBefore g (Some s) bits = HasState g Now s bits

-- At the bits of the state before and of the next one the function says whether this holds of the two.
pub record TellsMoves (g : GameData) (when : When) (f : Function) (r : Before → State → Bool) : Type 0 where
  pub at_moves : (b : Before) (s : State) (bits : Bits) → is_time g when b ≡ true → is_state g s ≡ true → HasBefore g b bits → HasState g Next s bits → f bits ≡ r b s

-- At the bits of the state before the function says whether this holds of it.
pub record TellsBefore (g : GameData) (when : When) (f : Function) (r : Before → Bool) : Type 0 where
  pub at_time : (b : Before) (bits : Bits) → is_time g when b ≡ true → HasBefore g b bits → f bits ≡ r b

-- where the function is true the next bits are a state's
abbrev pub IsOfNext : GameData → Function → Type 0
IsOfNext g f = (bits : Bits) → f bits ≡ true → (s : State) × (is_state g s ≡ true) × HasState g Next s bits

-- whether two lists are one
abbrev pub same_numbers : List ℕ → List ℕ → Bool
same_numbers [] [] = true
same_numbers (m ∷ ms) (n ∷ ns) = (m == n) && same_numbers ms ns
same_numbers _ _ = false

-- the state's hidden values are the ones that follow
abbrev pub follows : GameData → Before → State → Bool
follows g b s = same_numbers s.hidden (reached g b [] []).hidden

-- ---- what moves lead to

-- some legal output leads into the set
abbrev pub some_leads : GameData → StateSet → Before → Assignment → Bool
some_leads g n b x = list_any (λ y. legal_output g b x y && n (reached g b x y)) (outputs_of g)

-- some legal input has no legal output into the set
abbrev pub some_keeps_out : GameData → StateSet → Before → Bool
some_keeps_out g n b = list_any (λ x. legal_input g b x && not (some_leads g n b x)) (inputs_of g)
