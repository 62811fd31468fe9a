-- What a call of diagrams over bits gives and leaves.
use Rattle.std.specs.Prelude.{◌≡◌, ◌<◌, ◌≤◌, ℕ, List, length, slice_index_or, Result, Err, IfOk, OnErr}
use Rattle.spec_model.specs.Diagrams.{Diagram, Function}
use Rattle.bdd_store.specs.declared.fault.StoreFault.{StoreFault}
use Rattle.bdd_store.specs.declared.fault.StoreFault.TheVariants.{Full}
use Rattle.bdd_store.specs.State.{IsRoot, diagram_of, AddsRoot, SameRoots}
use Rattle.bdd_ops.specs.Calls.{IsCrowded}
use Rattle.bdd_ops.specs.Reading.{DependsOn}
use Rattle.bdd_bits.specs.Orders.{BitOrder, level_of}
use Rattle.bdd_bits.specs.Contents.{Contents, function_at}

-- each kept root is the diagram that it was, and the levels, the budget and the order stay
pub record KeepsRoots (old new : Contents) : Type 0 where
  pub levels : new.state.table.levels ≡ old.state.table.levels
  pub budget : new.state.table.budget ≡ old.state.table.budget
  pub order : new.order ≡ old.order
  pub meaning : (n : ℕ) → IsRoot old.state n → diagram_of new.state n ≡ diagram_of old.state n

-- the nodes and the order are those that they were
pub record SameNodes (old new : Contents) : Type 0 where
  pub table : new.state.table ≡ old.state.table
  pub order : new.order ≡ old.order

-- The result is a root of this function, or a refusal that leaves what is kept. `Full` comes only where the store then holds
-- exactly its budget, each node a constant or a part of a kept root or of one that the operation may make, told by levels.
pub record GivesRoot (old new : Contents) (result : Result ℕ StoreFault) (f : Function) (MayMake : Diagram → Type 0) : Type 0 where
  pub meaning : IfOk result (λ r. function_at new r ≡ f)
  pub added : IfOk result (λ r. AddsRoot old.state new.state r)
  pub refused : OnErr result (SameRoots old.state new.state)
  pub keeps : KeepsRoots old new
  pub full : result ≡ Err Full → IsCrowded new.state MayMake

-- the list, which is no longer than there are bits, gives each one that the function reads one of them, and keeps the order
-- of their levels
pub record RisesOver (levels : ℕ) (o : BitOrder) (to : List ℕ) (f : Function) : Type 0 where
  pub short : length to ≤ levels
  pub known : (x : ℕ) → x < levels → DependsOn x f → x < length to
  pub below : (x : ℕ) → x < levels → DependsOn x f → slice_index_or to x x < levels
  pub rising : (x y : ℕ) → level_of o x < level_of o y → x < levels → y < levels → DependsOn x f → DependsOn y f → level_of o (slice_index_or to x x) < level_of o (slice_index_or to y y)
