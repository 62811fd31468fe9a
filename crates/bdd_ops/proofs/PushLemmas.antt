-- Two answers that are joined while both stand on the stack.
use Rattle.std.proofs.Common.{◌≡◌, ℕ, sym, ◌∙◌, subst, List, [], ◌∷◌, ◌++◌}
use Rattle.spec_model.specs.Diagrams.{Diagram}
use Rattle.node_table.specs.Table.{Table, diagram_at}
use Rattle.bdd_store.specs.State.{IsEdge, IsHeldBy, diagram_of}
use Rattle.bdd_store.proofs.Held.{low_held, high_held}
use Rattle.bdd_ops.specs.Contents.{Contents}
use Rattle.bdd_ops.specs.Steps.{Works, SameNodes, IsSpent}
use Rattle.bdd_ops.specs.Frames.{IsOver}
use Rattle.bdd_ops.proofs.StayLemmas.{same_there, works_same, works_on}

module _ (old both : Contents) (low high : ℕ) (same : SameNodes old both) (stack : both.state.stack ≡ old.state.stack ++ low ∷ high ∷ []) where
  -- the nodes stay, so both are held
  pub low_on_stack : IsEdge old.state low → IsHeldBy both.state both.state.stack low
  low_on_stack live = subst (λ (xs : List ℕ). IsHeldBy both.state xs low) (sym stack) (low_held both.state old.state.stack low high (same_there old both low same live).0)

  pub high_on_stack : IsEdge old.state high → IsHeldBy both.state both.state.stack high
  high_on_stack live = subst (λ (xs : List ℕ). IsHeldBy both.state xs high) (sym stack) (high_held both.state old.state.stack low high (same_there old both high same live).0)

  module _ (new : Contents) where
    pub works_pushed : Works both new both.state.stack → Works old new (old.state.stack ++ low ∷ high ∷ [])
    works_pushed works = works_on old both new (old.state.stack ++ low ∷ high ∷ []) (works_same old both (old.state.stack ++ low ∷ high ∷ []) same) (subst (λ (xs : List ℕ). Works both new xs) stack works)

    pub over_pushed : new.state.stack ≡ both.state.stack → IsOver old.state.stack new.state.stack
    over_pushed still = (low ∷ high ∷ [], still ∙ stack)

    pub spent_pushed : (MayMake : Diagram → Diagram → Diagram → Type 0) → IsSpent new both.state.stack (MayMake (diagram_of both.state low) (diagram_of both.state high)) → IsSpent new (old.state.stack ++ low ∷ high ∷ []) (MayMake (diagram_of old.state low) (diagram_of old.state high))
    spent_pushed MayMake spent =
        let of_table = subst (λ (t : Table). IsSpent new both.state.stack (MayMake (diagram_at t low) (diagram_at t high))) same.table spent in
        subst (λ (xs : List ℕ). IsSpent new xs (MayMake (diagram_of old.state low) (diagram_of old.state high))) stack of_table
