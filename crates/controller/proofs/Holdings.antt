-- What is held as moves, one of several, and what stays.
use Rattle.std.proofs.Common.{◌≡◌, ℕ, zero, suc, ◌<◌, List, [], ◌∷◌, length, get_or, sym, subst, arith}
use Rattle.spec_model.specs.Sets.{StateSet}
use Rattle.regions.specs.declared.types.When.{When}
use Rattle.regions.specs.Kept.{Kept, Move, GivesOutputs, IsHeldAs, IsExact, Stays, IsSameGame, Outputs}
use Rattle.regions.proofs.Holding.{choice_is}
use Rattle.controller.specs.declared.aims.Aim.{Aim}
use Rattle.strategy_parts.proofs.Holdings.{held_stays}
use Rattle.controller.specs.Aims.{MovesLead, AimsLead}

module _ {R M : Type 0} where
  pub gives : (k : Kept R M) (m : M) (when : When) (t : StateSet) → IsExact k → IsHeldAs k (Move m) (Outputs when t) → GivesOutputs k m
  gives k m when t exact here = (when, t, choice_is k m (Outputs when t) exact here)

  pub moves_stay : (old new : Kept R M) (when : When) (ms : List M) (sets : ℕ → StateSet) → Stays old new → IsSameGame old new → MovesLead old when ms sets → MovesLead new when ms sets
  moves_stay old new when [] sets stays same all = tt
  moves_stay old new when (m ∷ ms) sets stays same all = (
    held_stays old new (Move m) (Outputs when (sets 0)) stays all.0,
    moves_stay old new when ms (λ i. sets (suc i)) stays same all.1,
  )

  pub move_at : (k : Kept R M) (when : When) (ms : List M) (sets : ℕ → StateSet) → MovesLead k when ms sets → (i : ℕ) → i < length ms → (m : M) → m ≡ get_or ms i m → IsHeldAs k (Move m) (Outputs when (sets i))
  move_at k when [] sets all i below m is = absurd (omega arith)
  move_at k when (q ∷ ms) sets all zero below m is = subst (λ (p : M). IsHeldAs k (Move p) (Outputs when (sets 0))) (sym is) all.0
  move_at k when (q ∷ ms) sets all (suc i) below m is = move_at k when ms (λ i. sets (suc i)) all.1 i (omega arith) m is

module _ {G R M : Type 0} where
  pub aim_at : (k : Kept R M) (when : When) (aims : List (Aim G R M)) (y : ℕ → StateSet) (x : ℕ → ℕ → StateSet) → AimsLead k when aims y x → (r : ℕ) → r < length aims → (d : Aim G R M) →
      IsHeldAs k (Move (get_or aims r d).layer) (Outputs when (y r)) × MovesLead k when (get_or aims r d).parts.items (x r)
  aim_at k when [] y x all r below d = absurd (omega arith)
  aim_at k when (q ∷ aims) y x all zero below d = (all.0, all.1)
  aim_at k when (q ∷ aims) y x all (suc r) below d = aim_at k when aims (λ r. y (suc r)) (λ r. x (suc r)) all.2 r (omega arith) d
