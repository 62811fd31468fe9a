-- Lists that are the same, and what is read of the state before a move.
use Rattle.std.proofs.Common.{◌≡◌, ℕ, suc, ◌==◌, Bool, true, false, ◌&&◌, List, [], ◌∷◌, length, map, Some, None, refl, sym, ap, ◌∙◌}
use Rattle.spec_model.specs.declared.value.Value.{Value}
use Rattle.spec_model.specs.Values.{Assignment, same_value}
use Rattle.spec_model.specs.Games.{GameData, State, first_hidden, next_hidden}
use Rattle.spec_model.specs.Steps.{Before, reached}
use Rattle.spec_model.proofs.Listed.{same_value-refl}
use Rattle.game_play.specs.Sights.{cell_in}
use Rattle.game_play.proofs.Sights.{cells_back}
use Rattle.strategy_tables.specs.Tables.{NodeData, same_values, same_numbers, same_state, is_reached}
use Rattle.table_check.specs.declared.room.Room.{Room}
use Rattle.table_check.specs.Turns.{IsReadBefore}

if_false : (b : Bool) {c : Bool} → c ≡ false → (b && c) ≡ false
if_false true e = e
if_false false e = refl

-- lists of unequal length differ
pub same_values-long : (vs ws : List Value) → (length vs ≡ length ws → ⊥) → same_values vs ws ≡ false
same_values-long [] [] other = absurd (other refl)
same_values-long [] (w ∷ ws) other = refl
same_values-long (v ∷ vs) [] other = refl
same_values-long (v ∷ vs) (w ∷ ws) other = if_false (same_value v w) (same_values-long vs ws (λ e. other (ap suc e)))

pub same_numbers-long : (vs ws : List Value) → (length vs ≡ length ws → ⊥) → same_numbers (map cell_in vs) (map cell_in ws) ≡ false
same_numbers-long [] [] other = absurd (other refl)
same_numbers-long [] (w ∷ ws) other = refl
same_numbers-long (v ∷ vs) [] other = refl
same_numbers-long (v ∷ vs) (w ∷ ws) other = if_false (cell_in v == cell_in w) (same_numbers-long vs ws (λ e. other (ap suc e)))

pub same_values-refl : (vs : List Value) → same_values vs vs ≡ true
same_values-refl [] = refl
same_values-refl (v ∷ vs) = ap (λ b. b && same_values vs vs) (same_value-refl v) ∙ same_values-refl vs

-- ---- the state that a move leads to

hidden_read : (g : GameData) (b : Before) (r : Room) → IsReadBefore g b r → (x y : Assignment) → map cell_in r.numbers.items ≡ (reached g b x y).hidden
hidden_read g None r read x y = ap (map cell_in) read ∙ cells_back (first_hidden g)
hidden_read g (Some s) r read x y = ap (map cell_in) read.1.next ∙ cells_back (next_hidden g s)

-- a node's state is reached where its hidden values and its input are those that the move leads to
pub reached_by : (g : GameData) (b : Before) (r : Room) → IsReadBefore g b r → (x : Assignment) (v : NodeData) →
    (same_numbers v.state.hidden (map cell_in r.numbers.items) && same_values v.state.position.input x) ≡ is_reached g b x v
reached_by g b r read x v =
    ap (λ (ns : List ℕ). same_numbers v.state.hidden ns && same_values v.state.position.input x) (hidden_read g b r read x v.state.position.output)
    ∙ ap (λ e. same_numbers v.state.hidden (reached g b x v.state.position.output).hidden && e) (sym (if_true (same_values v.state.position.input x) (same_values-refl v.state.position.output)))
  where
    if_true : (a : Bool) {c : Bool} → c ≡ true → (a && c) ≡ a
    if_true true e = e
    if_true false e = refl
