-- Diagrams at the first level that they read.
use Rattle.std.proofs.Common.{◌≡◌, ◌↔◌, ◌<◌, ℕ, sym, ◌∙◌, ap, subst, refl, arith}
use Rattle.spec_model.specs.Diagrams.{Diagram, branch, IsReduced}
use Rattle.spec_model.proofs.Diagrams.{value_at_false, value_at_true}
use Rattle.node_table.specs.Table.{diagram_at}
use Rattle.bdd_store.specs.State.{State, IsEdge, IsRoot, diagram_of, HasParts}
use Rattle.bdd_ops.specs.Contents.{Contents, AreRight, function_at}
use Rattle.bdd_ops.specs.Splits.{SplitsAt}
use Rattle.bdd_ops.proofs.DiagramLemmas.{own_is_read, later_ignores}

-- a reduced branch is split at its level
splits_branch : (levels level : ℕ) (low high : Diagram) → level < levels → IsReduced (branch level low high) → SplitsAt levels level (branch level low high) low high
splits_branch levels level low high below reduced = record {
  below = below;
  reads = own_is_read level low high reduced;
  none_before = λ m before. later_ignores (branch level low high) m reduced before m (omega arith);
  low_is = λ i s. sym (value_at_false level low high s reduced) i;
  high_is = λ i s. sym (value_at_true level low high s reduced) i;
  diagram = refl;
  reduced = reduced;
}

-- a node with parts is split at its level
pub splits_parts : (old new : State) (n level low high : ℕ) → IsReduced (diagram_of old n) → HasParts old n level low high → new.table ≡ old.table → SplitsAt old.table.levels level (diagram_of old n) (diagram_of new low) (diagram_of new high)
splits_parts old new n level low high reduced parts same =
    let whole : IsReduced (branch level (diagram_of old low) (diagram_of old high)) = subst (λ (d : Diagram). IsReduced d) parts.meaning reduced in
    let now : (m : ℕ) → diagram_of new m ≡ diagram_of old m = λ m. ap (λ t. diagram_at t m) same in
    rw (now low, now high, parts.meaning) (splits_branch old.table.levels level (diagram_of old low) (diagram_of old high) parts.below whole)

-- a live node of the same function is the root's own
pub number_among : (c : Contents) (a n m : ℕ) → AreRight c → n ≡ a → IsEdge c.state n → IsEdge c.state m → function_at c m ≡ function_at c a → m ≡ n
number_among c a n m are is live other same = are.store.one m n other live (same ∙ ap (function_at c) (sym is))

-- a kept root has the same number exactly where it has the same function
pub number_one : (c : Contents) (a n m : ℕ) → AreRight c → n ≡ a → IsEdge c.state n → IsRoot c.state m → (n ≡ m) ↔ (function_at c a ≡ function_at c m)
number_one c a n m are is live root = (λ same. ap (function_at c) (sym is ∙ same), λ same. sym (number_among c a n m are is live (are.store.roots_live m root) (sym same)))
