-- The states of a run that goes on.
use Rattle.std.proofs.Common.{◌≡◌, ℕ, zero, suc, ◌<◌, ◌≤◌, List, [], ◌∷◌, ◌++◌, length, get_or, Some, refl, sym, ◌∙◌, ap, arith}
use Rattle.spec_model.specs.Values.{Assignment}
use Rattle.spec_model.specs.Rules.{Run, Position, after}
use Rattle.spec_model.specs.Moves.{nothing}
use Rattle.spec_model.specs.Games.{GameData, State, next_hidden}
use Rattle.spec_model.specs.GameRuns.{hidden_at, state_at}
use Rattle.spec_model.specs.Steps.{reached}
use Rattle.spec_model.specs.GameRules.{before_at, last_state}

earlier : (h : Run) (p : Position) (t : ℕ) → t < length h → get_or (h ++ p ∷ []) t nothing ≡ get_or h t nothing
earlier [] p t below = absurd (omega arith)
earlier (q ∷ h) p zero below = refl
earlier (q ∷ h) p (suc t) below = earlier h p t (omega arith)

last : (h : Run) (p : Position) → get_or (h ++ p ∷ []) (length h) nothing ≡ p
last [] p = refl
last (q ∷ h) p = last h p

pub length-after : (h : Run) (p : Position) → length (h ++ p ∷ []) ≡ suc (length h)
length-after [] p = refl
length-after (q ∷ h) p = ap suc (length-after h p)

state_of : List ℕ → Position → State
state_of hidden p = record { hidden = hidden; position = p }

-- the hidden values of the state that a move leads to are those of its position
reached_at : (g : GameData) (h : Run) (x y : Assignment) (t : ℕ) → reached g (before_at g h t) x y ≡ state_of (hidden_at g h t) (record { input = x; output = y })
unfolding state_of
reached_at g h x y zero = refl
reached_at g h x y (suc t) = refl

module _ (g : GameData) (h : Run) (p : Position) where
  hidden_at-earlier : (t : ℕ) → t ≤ length h → hidden_at g (h ++ p ∷ []) t ≡ hidden_at g h t
  hidden_at-earlier zero below = refl
  hidden_at-earlier (suc t) below =
      ap (λ (hidden : List ℕ). next_hidden g (record { hidden = hidden; position = get_or (h ++ p ∷ []) t nothing })) (hidden_at-earlier t (omega arith))
      ∙ ap (λ (q : Position). next_hidden g (record { hidden = hidden_at g h t; position = q })) (earlier h p t (omega arith))

  pub state_at-earlier : (t : ℕ) → t < length h → state_at g (h ++ p ∷ []) t ≡ state_at g h t
  unfolding state_of
  state_at-earlier t below =
      ap (λ (hidden : List ℕ). state_of hidden (get_or (h ++ p ∷ []) t nothing)) (hidden_at-earlier t (omega arith))
      ∙ ap (state_of (hidden_at g h t)) (earlier h p t below)

  pub state_at-last : state_at g (h ++ p ∷ []) (length h) ≡ reached g (last_state g h) p.input p.output
  unfolding state_of
  state_at-last =
      ap (λ (hidden : List ℕ). state_of hidden (get_or (h ++ p ∷ []) (length h) nothing)) (hidden_at-earlier (length h) (omega arith))
      ∙ (ap (state_of (hidden_at g h (length h))) (last h p)
      ∙ sym (reached_at g h p.input p.output (length h)))

pub last_state-after : (g : GameData) (h : Run) (x y : Assignment) → last_state g (after h x y) ≡ Some (reached g (last_state g h) x y)
last_state-after g h x y =
    ap (before_at g (after h x y)) (length-after h (record { input = x; output = y }))
    ∙ ap (λ (s : State). Some s) (state_at-last g h (record { input = x; output = y }))
