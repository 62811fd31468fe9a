-- Copies of parts, and what making them gives and leaves.
use Rattle.std.specs.Prelude.{◌≡◌, ◌<◌, ◌+◌, ◌++◌, ℕ, true, List, [], ◌∷◌, length, Result, IfOk}
use Rattle.std.specs.List.{AllByRecursion, All}
use Rattle.spec_model.specs.Diagrams.{Diagram, constant, branch, value, shifted}
use Rattle.node_table.specs.Table.{Table, diagram_at}
use Rattle.bdd_store.specs.declared.fault.StoreFault.{StoreFault}
use Rattle.bdd_store.specs.State.{IsRoot}
use Rattle.bdd_ops.specs.Contents.{Contents, function_at}
use Rattle.bdd_reorder.specs.declared.memo.Copied.{Copied}
use Rattle.bdd_reorder.specs.Keeping.{one_at, made_at, KeepsBesides}
use Rattle.bdd_reorder.specs.Rearranged.{IsPartRearranged}

-- the list has a level of a store with so many for each level of one with as many as it is long
pub record FitsLevels (from to : Contents) (levels : List ℕ) : Type 0 where
  pub each : length levels ≡ from.state.table.levels
  pub below : All (λ level. level < to.state.table.levels) levels

-- ---- copies that are remembered. No public clause cites what follows.

-- how often the copies have the root
abbrev pub copies_at : ℕ → List Copied → ℕ
copies_at n [] = 0
copies_at n (x ∷ xs) = one_at n x.root + copies_at n xs

-- the copy means the part of this number of the table, with its levels rearranged
abbrev pub IsRight : Table → Contents → List ℕ → Copied → Type 0
IsRight from to levels x = function_at to x.root ≡ shifted levels (value (diagram_at from x.number))

-- a right copy that is kept
pub record IsCopy (from : Table) (to : Contents) (levels : List ℕ) (x : Copied) : Type 0 where
  pub kept : IsRoot to.state x.root
  pub right : IsRight from to levels x

-- what copying a part asks
pub record CanCopy (from to : Contents) (levels : List ℕ) (truth : ℕ) (xs : List Copied) : Type 0 where
  pub fits : FitsLevels from to levels
  pub truth_kept : IsRoot from.state truth
  pub truth_is : function_at from truth ≡ (λ s. true)
  pub copies : AllByRecursion (IsCopy from.state.table to levels) xs

-- the result is a copy of the diagram, if it isn't refused; some copies more are remembered, of its parts
pub record CopiesPart (from : Table) (old new : Contents) (levels : List ℕ) (d : Diagram) (before after : List Copied) (result : Result ℕ StoreFault) : Type 0 where
  pub meaning : IfOk result (λ r. function_at new r ≡ shifted levels (value d))
  pub more : List Copied
  pub after_is : after ≡ before ++ more
  pub right : AllByRecursion (IsRight from new levels) more
  pub besides : KeepsBesides old new (IsPartRearranged levels d) (λ n. copies_at n more + made_at n result)

-- how many nodes the diagram has as a tree
abbrev pub size_of : Diagram → ℕ
size_of (constant b) = 0
size_of (branch level low high) = 1 + (size_of low + size_of high)
