-- What a call of diagrams gives and leaves.
use Rattle.std.specs.Prelude.{◌≡◌, ◌<◌, ◌⊎◌, ℕ, List, length, slice_index_or, Result, Err, IfOk, OnErr}
use Rattle.spec_model.specs.Diagrams.{Diagram, Function, IsPartOf}
use Rattle.bdd_store.specs.declared.fault.StoreFault.{StoreFault}
use Rattle.bdd_store.specs.declared.fault.StoreFault.TheVariants.{Full}
use Rattle.bdd_store.specs.State.{State, IsEdge, IsRoot, diagram_of, AddsRoot, SameRoots, IsFull}
use Rattle.bdd_ops.specs.Reading.{DependsOn}
use Rattle.bdd_ops.specs.Contents.{Contents, function_at}
pub use Rattle.bdd_ops.specs.Unfinished.{negated, IsNegatedPart}
pub use Rattle.bdd_ops.specs.Standing.{StandsInMade}

-- each kept root is the diagram that it was, and the levels and the budget stay
pub record KeepsRoots (old new : Contents) : Type 0 where
  pub levels : new.state.table.levels ≡ old.state.table.levels
  pub budget : new.state.table.budget ≡ old.state.table.budget
  pub meaning : (n : ℕ) → IsRoot old.state n → diagram_of new.state n ≡ diagram_of old.state n

-- the node of each kept root is there
abbrev pub HasRoots : State → Type 0
HasRoots s = (n : ℕ) → IsRoot s n → IsEdge s n

-- the node is a constant, or stands in a kept root, or in one that may be made
abbrev pub IsNeeded : State → (Diagram → Type 0) → ℕ → Type 0
IsNeeded s MayMake n = (n < 2) ⊎ (((r : ℕ) × IsRoot s r × IsPartOf (diagram_of s n) (diagram_of s r)) ⊎ StandsInMade s MayMake n)

-- the store holds exactly its budget of nodes, those of all kept roots among them, and needs each of them
pub record IsCrowded (s : State) (MayMake : Diagram → Type 0) : Type 0 where
  pub full : IsFull s
  pub rooted : HasRoots s
  pub needed : (n : ℕ) → IsEdge s n → IsNeeded s MayMake n

-- the result is a root of this function, or a refusal that leaves what is kept; `Full` comes only where the store is crowded
-- by kept roots and what the operation may make
pub record GivesRoot (old new : Contents) (result : Result ℕ StoreFault) (f : Function) (MayMake : Diagram → Type 0) : Type 0 where
  pub meaning : IfOk result (λ r. function_at new r ≡ f)
  pub added : IfOk result (λ r. AddsRoot old.state new.state r)
  pub refused : OnErr result (SameRoots old.state new.state)
  pub keeps : KeepsRoots old new
  pub full : result ≡ Err Full → IsCrowded new.state MayMake

-- the list gives each of so many levels that the function reads one of them, and rises over them
pub record RisesOver (levels : ℕ) (to : List ℕ) (f : Function) : Type 0 where
  pub known : (x : ℕ) → x < levels → DependsOn x f → x < length to
  pub below : (x : ℕ) → x < levels → DependsOn x f → slice_index_or to x x < levels
  pub rising : (x y : ℕ) → x < y → y < levels → DependsOn x f → DependsOn y f → slice_index_or to x x < slice_index_or to y y
