-- What operations are tried with: a list of three levels that rises over all but the last, and roots that stay.
use Rattle.std.proofs.Common.{◌≡◌, Bool, ℕ, zero, suc, ◌<◌, ◌==◌, if◌then◌else◌, ap, sym, subst, refl, arith, List, [], ◌∷◌, ◌++◌, slice_index_or}
use Rattle.std.specs.List.{All}
use Rattle.std.proofs.lemmas.List.Elements.{All-nil, All-push}
use Rattle.spec_model.specs.Diagrams.{Function}
use Rattle.std.proofs.lemmas.Bool.{eq-eqb}
use Rattle.bdd_store.specs.State.{State, IsRoot, AddsRoot}
use Rattle.bdd_ops.specs.Reading.{Ignores, DependsOn}
use Rattle.bdd_ops.specs.Calls.{RisesOver}

pub rises_but_last : (levels : ℕ) (f : Function) → levels ≡ 3 → Ignores 2 f → RisesOver levels (1 ∷ 2 ∷ 0 ∷ []) f
rises_but_last levels f three ignores = rw three (record { known = λ x small depends. small; below = λ x small depends. below x small; rising = rising f ignores }) where
  below : (x : ℕ) → x < 3 → slice_index_or (1 ∷ 2 ∷ 0 ∷ []) x x < 3
  below zero small = omega arith
  below (suc zero) small = omega arith
  below (suc (suc zero)) small = omega arith
  below (suc (suc (suc x))) small = omega arith

  rising : (f : Function) → Ignores 2 f → (x y : ℕ) → x < y → y < 3 → DependsOn x f → DependsOn y f → slice_index_or (1 ∷ 2 ∷ 0 ∷ []) x x < slice_index_or (1 ∷ 2 ∷ 0 ∷ []) y y
  rising f ignores x zero before small dep_x dep_y = omega arith
  rising f ignores zero (suc zero) before small dep_x dep_y = omega arith
  rising f ignores (suc x) (suc zero) before small dep_x dep_y = omega arith
  rising f ignores x (suc (suc zero)) before small dep_x dep_y = absurd (dep_y ignores)
  rising f ignores x (suc (suc (suc y))) before small dep_x dep_y = omega arith

-- two kept roots that are asked for are kept
pub both_kept : (s : State) (roots : List ℕ) (a b : ℕ) → roots ≡ ([] ++ a ∷ []) ++ b ∷ [] → IsRoot s a → IsRoot s b → All (λ n. IsRoot s n) roots
both_kept s roots a b is a_kept b_kept =
    subst (λ (ns : List ℕ). All (λ n. IsRoot s n) ns) (sym is) (All-push (λ n. IsRoot s n) (a ∷ []) b (All-push (λ n. IsRoot s n) [] a (All-nil (λ n. IsRoot s n)) a_kept) b_kept)

abbrev one_if : Bool → ℕ
one_if b = if b then 1 else 0

-- a root is counted once at its own node
pub once : (root : ℕ) → one_if (root == root) ≡ 1
once root = ap one_if (eq-eqb root root refl)

-- a root that was made is kept
pub root_made : (old new : State) (root : ℕ) → AddsRoot old new root → IsRoot new root
root_made old new root adds = omega (arith, adds root, once root)

-- also after another
pub root_stays : (old mid new : State) (root next : ℕ) → AddsRoot old mid root → AddsRoot mid new next → IsRoot new root
root_stays old mid new root next adds adds_next =
    let kept : IsRoot mid root = root_made old mid root adds in
    omega (arith, kept, adds_next root)
