-- Moves that are held as those into sets, one of several, and what stays.
use Rattle.std.proofs.Common.{◌≡◌, ℕ, zero, suc, ◌<◌, List, [], ◌∷◌, length, get_or, sym, subst, arith}
use Rattle.spec_model.specs.Sets.{StateSet}
use Rattle.regions.specs.declared.types.When.{When}
use Rattle.regions.specs.Kept.{Kept, Move, Inputs, IsHeldAs, Stays}
use Rattle.strategy_parts.proofs.Holdings.{held_stays}
use Rattle.counterstrategy.specs.Forced.{MovesLead}

module _ {R M : Type 0} where
  pub moves_stay : (old new : Kept R M) (when : When) (ms : List M) (sets : ℕ → StateSet) → Stays old new → MovesLead old when ms sets → MovesLead new when ms sets
  moves_stay old new when [] sets stays all = tt
  moves_stay old new when (m ∷ ms) sets stays all = (held_stays old new (Move m) (Inputs when (sets 0)) stays all.0, moves_stay old new when ms (λ i. sets (suc i)) stays all.1)

  pub move_at : (k : Kept R M) (when : When) (ms : List M) (sets : ℕ → StateSet) → MovesLead k when ms sets → (i : ℕ) → i < length ms → (m : M) → m ≡ get_or ms i m → IsHeldAs k (Move m) (Inputs when (sets i))
  move_at k when [] sets all i below m is = absurd (omega arith)
  move_at k when (q ∷ ms) sets all zero below m is = subst (λ (p : M). IsHeldAs k (Move p) (Inputs when (sets 0))) (sym is) all.0
  move_at k when (q ∷ ms) sets all (suc i) below m is = move_at k when ms (λ i. sets (suc i)) all.1 i (omega arith) m is
