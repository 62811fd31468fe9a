-- Roots that are given back, the last one first.
use Rattle.std.proofs.Common.{◌≡◌, ℕ, ◌+◌, ◌≤◌, Vec, vec_len, List, [], ◌∷◌, ◌++◌, ap, arith}
use Rattle.std.proofs.lemmas.List.{nil_from_length}
use Rattle.std.specs.declared.alloc.Global.{Global}
use Rattle.bdd_store.specs.State.{State, IsRoot, roots_at, AddsRoot}
use Rattle.bdd_reorder.specs.declared.memo.Copied.{Copied}
use Rattle.bdd_reorder.specs.Keeping.{one_at, times_in}
use Rattle.bdd_reorder.specs.Copying.{copies_at}
use Rattle.bdd_reorder.proofs.KeepingLemmas.{one_itself, times-push}
use Rattle.bdd_reorder.proofs.CopyLemmas.{copies-append}

pub none_left : {X : Type 0} (v : Vec X Global) → vec_len v ≡ 0 → v.items ≡ []
none_left v e = nil_from_length v.items (omega arith)

-- how often a list has each root, before and after its last one is taken
module _ (first l new : State) (all now rest : ℕ → ℕ) (x : ℕ) (left : (n : ℕ) → roots_at l n + all n ≡ roots_at first n + now n) (popped : (n : ℕ) → now n ≡ rest n + one_at n x) where
  pub popped_root : ((n : ℕ) → all n ≤ roots_at first n) → IsRoot l x
  popped_root counted = let here = left x in let some = counted x in let last = popped x in let one = one_itself x in omega (arith, here, some, last, one)

  pub popped_left : AddsRoot new l x → (n : ℕ) → roots_at new n + all n ≡ roots_at first n + rest n
  popped_left back n = let here = left n in let one = back n in let last = popped n in omega (arith, here, one, last)

pub times_popped : (roots rest : List ℕ) (x : ℕ) → roots ≡ rest ++ x ∷ [] → (n : ℕ) → times_in n roots ≡ times_in n rest + one_at n x
times_popped roots rest x popped n = let same = ap (times_in n) popped in let push = times-push rest x n in omega (arith, same, push)

pub copies_popped : (xs rest : List Copied) (x : Copied) → xs ≡ rest ++ x ∷ [] → (n : ℕ) → copies_at n xs ≡ copies_at n rest + one_at n x.root
copies_popped xs rest x popped n = let same = ap (copies_at n) popped in let push = copies-append rest (x ∷ []) n in omega (arith, same, push)

pub all_released : (first l : State) (all now : ℕ → ℕ) → ((n : ℕ) → roots_at l n + all n ≡ roots_at first n + now n) → ((n : ℕ) → now n ≡ 0) → (n : ℕ) → roots_at first n ≡ roots_at l n + all n
all_released first l all now left none n = let here = left n in let zero = none n in omega (arith, here, zero)
