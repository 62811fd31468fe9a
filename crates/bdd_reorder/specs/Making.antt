-- What a step and a copy give and leave.
use Rattle.std.specs.Prelude.{◌≡◌, ◌+◌, ℕ, List, map, Vec, Result, Err, IfOk, OnErr}
use Rattle.std.specs.declared.alloc.Global.{Global}
use Rattle.spec_model.specs.Diagrams.{Diagram, Function, value, ite, shifted, IsReduced}
use Rattle.bdd_store.specs.declared.fault.StoreFault.{StoreFault}
use Rattle.bdd_store.specs.declared.fault.StoreFault.TheVariants as fault
use Rattle.bdd_store.specs.State.{diagram_of, roots_at, SameRoots}
use Rattle.bdd_ops.specs.Contents.{Contents, function_at}
use Rattle.bdd_ops.specs.Calls.{KeepsRoots}
use Rattle.bdd_reorder.specs.Keeping.{times_in, made_at}
use Rattle.bdd_reorder.specs.Crowding.{IsCrowdedSince, IsCrowdedByCopy}
use Rattle.bdd_reorder.specs.Rearranged.{IsOfPart}

-- the functions of several nodes
abbrev pub functions_at : Contents → List ℕ → List Function
functions_at c roots = map (function_at c) roots

-- the diagrams of several nodes
abbrev pub diagrams_at : Contents → List ℕ → List Diagram
diagrams_at c roots = map (diagram_of c.state) roots

-- The result is a list of copies of these diagrams, with their levels rearranged, each a root more; or a refusal that leaves
-- what is kept. `Full` comes only where copying fills the budget.
pub record MakesCopies (old new : Contents) (result : Result (Vec ℕ Global) StoreFault) (levels : List ℕ) (ds : List Diagram) : Type 0 where
  pub meaning : IfOk result (λ roots. functions_at new roots.items ≡ map (λ d. shifted levels (value d)) ds)
  pub added : IfOk result (λ roots. (n : ℕ) → roots_at new.state n ≡ roots_at old.state n + times_in n roots.items)
  pub refused : OnErr result (SameRoots old.state new.state)
  pub keeps : KeepsRoots old new
  pub full : result ≡ Err fault.Full → IsCrowdedByCopy old.state new.state.table levels ds

-- ---- single steps. No public clause cites what follows.

-- the result is a root of this function, or a refusal that leaves what is kept; `Full` comes only where what was kept and
-- named functions fill the budget, with one operation on these
pub record MakesOne (old new : Contents) (result : Result ℕ StoreFault) (f : Function) (IsNamed : Function → Type 0) : Type 0 where
  pub meaning : IfOk result (λ r. function_at new r ≡ f)
  pub keeps : KeepsRoots old new
  pub added : (n : ℕ) → roots_at new.state n ≡ roots_at old.state n + made_at n result
  pub full : result ≡ Err fault.Full → IsCrowdedSince old.state new.state.table IsNamed

-- the result is a copy of the diagram, or a refusal that leaves what is kept
pub record MakesCopy (old new : Contents) (result : Result ℕ StoreFault) (levels : List ℕ) (d : Diagram) : Type 0 where
  pub meaning : IfOk result (λ r. function_at new r ≡ shifted levels (value d))
  pub keeps : KeepsRoots old new
  pub added : (n : ℕ) → roots_at new.state n ≡ roots_at old.state n + made_at n result
  pub full : result ≡ Err fault.Full → IsReduced d × ((level : ℕ) × IsCrowdedSince old.state new.state.table (IsOfPart levels d level))

-- high where the level's bit is true, and else low
abbrev pub branched : ℕ → Function → Function → Function
branched level low high = ite (λ s. s level) high low
