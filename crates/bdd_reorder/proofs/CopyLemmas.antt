-- Copies that are remembered.
use Rattle.std.proofs.Common.{◌≡◌, ℕ, ◌+◌, ◌<◌, ◌∙◌, ap, arith, List, [], ◌∷◌, ◌++◌}
use Rattle.std.specs.List.{AllByRecursion}
use Rattle.spec_model.specs.Diagrams.{value}
use Rattle.node_table.specs.Table.{Table}
use Rattle.bdd_store.specs.State.{IsRoot}
use Rattle.bdd_ops.specs.Contents.{Contents}
use Rattle.bdd_ops.specs.Calls.{KeepsRoots}
use Rattle.bdd_reorder.specs.declared.memo.Copied.{Copied}
use Rattle.bdd_reorder.specs.Copying.{copies_at, IsRight, IsCopy}
use Rattle.bdd_reorder.proofs.KeepingLemmas.{one_itself}
use Rattle.bdd_reorder.proofs.CrowdingLemmas.{all_wider}

pub copies-append : (xs ys : List Copied) (n : ℕ) → copies_at n (xs ++ ys) ≡ copies_at n xs + copies_at n ys
copies-append [] ys n = omega arith
copies-append (x ∷ xs) ys n = let rest = copies-append xs ys n in omega (arith, rest)

-- right copies that are counted are kept
pub are_copies : (from : Table) (to : Contents) (levels : List ℕ) (xs : List Copied) → ((n : ℕ) → 0 < copies_at n xs → IsRoot to.state n) → AllByRecursion (IsRight from to levels) xs → AllByRecursion (IsCopy from to levels) xs
are_copies from to levels [] kept right = tt
are_copies from to levels (x ∷ xs) kept right =
    let here : 0 < copies_at x.root (x ∷ xs) = (let one = one_itself x.root in omega (arith, one)) in
    (record { kept = kept x.root here; right = right.0 }, are_copies from to levels xs (λ n some. kept n (omega (arith, some))) right.1)

-- copies that are kept stay right
pub copies_stay : (from : Table) (old new : Contents) (levels : List ℕ) (xs : List Copied) → ((n : ℕ) → IsRoot old.state n → IsRoot new.state n) → KeepsRoots old new → AllByRecursion (IsCopy from old levels) xs → AllByRecursion (IsCopy from new levels) xs
copies_stay from old new levels xs stays keeps copies =
    all_wider (IsCopy from old levels) (IsCopy from new levels) (λ x copy. record { kept = stays x.root copy.kept; right = ap value (keeps.meaning x.root copy.kept) ∙ copy.right }) xs copies

-- right copies stay right where they are kept
pub rights_stay : (from : Table) (old new : Contents) (levels : List ℕ) (xs : List Copied) → ((n : ℕ) → 0 < copies_at n xs → IsRoot old.state n) → KeepsRoots old new → AllByRecursion (IsRight from old levels) xs → AllByRecursion (IsRight from new levels) xs
rights_stay from old new levels [] kept keeps right = tt
rights_stay from old new levels (x ∷ xs) kept keeps right =
    let here : 0 < copies_at x.root (x ∷ xs) = (let one = one_itself x.root in omega (arith, one)) in
    (ap value (keeps.meaning x.root (kept x.root here)) ∙ right.0, rights_stay from old new levels xs (λ n some. kept n (omega (arith, some))) keeps right.1)
