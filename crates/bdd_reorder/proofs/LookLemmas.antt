-- What functions that look at diagrams owe, in plain variables.
use Rattle.std.proofs.Common.{◌≡◌, ℕ, ◌+◌, ◌*◌, ◌<◌, ◌≤◌, ◌∙◌, ap, arith, Result, Ok, Err, OnOk, List, [], ◌∷◌, ◌++◌}
use Rattle.spec_model.specs.Diagrams.{branch}
use Rattle.node_table.specs.Table.{Table, diagram_at}
use Rattle.bdd_store.specs.State.{State, IsRoot, roots_at, AddsRoot}
use Rattle.bdd_ops.specs.Splits.{AddsBoth}
use Rattle.bdd_reorder.specs.Keeping.{one_at, times_in}
use Rattle.bdd_reorder.specs.Copying.{size_of}
use Rattle.bdd_reorder.specs.Searching.{turns_over}
use Rattle.bdd_reorder.proofs.KeepingLemmas.{one_itself, times-push}
use Rattle.bdd_reorder.proofs.SearchLemmas.{turns_over-push}

pub pushed_twice : (xs ys zs ws : List ℕ) (a b : ℕ) → ys ≡ xs → zs ≡ ys ++ a ∷ [] → ws ≡ zs ++ b ∷ [] → ws ≡ (xs ++ a ∷ []) ++ b ∷ []
pushed_twice xs ys zs ws a b one two three = three ∙ ap (λ (vs : List ℕ). vs ++ b ∷ []) (two ∙ ap (λ (vs : List ℕ). vs ++ a ∷ []) one)

-- what waits is kept, with two more
pub roots_pushed : (from new : State) (xs ws : List ℕ) (low high : ℕ) → ws ≡ (xs ++ high ∷ []) ++ low ∷ [] → AddsBoth from new low high → (n : ℕ) → roots_at new n + times_in n xs ≡ roots_at from n + times_in n ws
roots_pushed from new xs ws low high are added n =
    let more = added n in
    let same = ap (times_in n) are in
    let one = times-push xs high n in
    let two = times-push (xs ++ high ∷ []) low n in
    omega (arith, more, same, one, two)

-- the last that waits is looked at, and given back
module _ (first l looked new : State) (all now rest later : List ℕ) (x : ℕ) (left : (n : ℕ) → roots_at l n + times_in n all ≡ roots_at first n + times_in n now) (popped : now ≡ rest ++ x ∷ []) (roots : (n : ℕ) → roots_at looked n + times_in n rest ≡ roots_at l n + times_in n later) where
  counted : (n : ℕ) → times_in n now ≡ times_in n rest + one_at n x
  counted n = let same = ap (times_in n) popped in let push = times-push rest x n in omega (arith, same, push)

  pub still_kept : ((n : ℕ) → times_in n all ≤ roots_at first n) → IsRoot looked x
  still_kept kept = let one = left x in let two = roots x in let three = kept x in let four = counted x in let five = one_itself x in omega (arith, one, two, three, four, five)

  pub left_then : AddsRoot new looked x → (n : ℕ) → roots_at new n + times_in n all ≡ roots_at first n + times_in n later
  left_then back n = let one = left n in let two = roots n in let three = back n in let four = counted n in omega (arith, one, two, three, four)

pub fewer_then : (t : Table) (now rest later : List ℕ) (x : ℕ) → now ≡ rest ++ x ∷ [] → turns_over t later ≤ turns_over t rest + 2 * size_of (diagram_at t x) → turns_over t later < turns_over t now
fewer_then t now rest later x popped less = let same = ap (turns_over t) popped in let push = turns_over-push t rest x in omega (arith, same, push, less)

-- two parts wait in place of what is looked at
pub fewer_pushed : (t : Table) (xs ws : List ℕ) (a level low high : ℕ) → ws ≡ (xs ++ high ∷ []) ++ low ∷ [] → diagram_at t a ≡ branch level (diagram_at t low) (diagram_at t high) → turns_over t ws ≤ turns_over t xs + 2 * size_of (diagram_at t a)
fewer_pushed t xs ws a level low high are is =
    let same = ap (turns_over t) are in
    let one = turns_over-push t xs high in
    let two = turns_over-push t (xs ++ high ∷ []) low in
    let size = ap size_of is in
    omega (arith, same, one, two, size)

-- what a search that isn't refused gives
pub on_ok : {V E P Q : Type 0} (r : Result V E) → (P → Q) → OnOk r P → OnOk r Q
on_ok (Ok v) then given = then given
on_ok (Err h) then given = tt
