-- What a budget is filled with where it ends a call: diagrams that are held, and what one operation on them made so far.
use Rattle.std.specs.Prelude.{◌≡◌, ◌<◌, ◌⊎◌, ℕ, Result, Err}
use Rattle.std.specs.List.{AllByRecursion}
use Rattle.spec_model.specs.Diagrams.{Diagram, Function, IsPartOf, IsReduced}
use Rattle.node_table.specs.Table.{Table, IsLive, diagram_at}
use Rattle.bdd_store.specs.State.{IsEdge, IsRoot, diagram_of, IsFilled}
use Rattle.bdd_bits.specs.Contents.{Contents, function_of}
use Rattle.regions.specs.declared.types.Halt.{Halt}
use Rattle.bit_compile.specs.Making.{Makes}
use Rattle.regions.specs.declared.types.Halt.TheVariants as halt
pub use Rattle.bit_compile.specs.Running.{Running, bit, negation, join, choice, related, moved, arguments_of, IsUnfinishedOf}

-- the node stands in a diagram that is held, whose nodes are all in the table
pub record StandsIn (t : Table) (IsHeld : Diagram → Type 0) (n : ℕ) : Type 0 where
  pub root : ℕ
  pub live : IsLive t root
  pub held : IsHeld (diagram_at t root)
  pub part : IsPartOf (diagram_at t n) (diagram_at t root)

-- The table holds exactly its budget of nodes: the constants, parts of diagrams that are held, and parts of unfinished
-- results of one operation on such diagrams.
pub record IsCrowdedBy (t : Table) (IsHeld : Diagram → Type 0) : Type 0 where
  pub filled : IsFilled t
  pub running : Running
  pub on_held : AllByRecursion IsHeld (arguments_of running)
  pub reduced : AllByRecursion IsReduced (arguments_of running)
  pub needed : (n : ℕ) → IsLive t n → (n < 2) ⊎ (StandsIn t IsHeld n ⊎ StandsIn t (IsUnfinishedOf running) n)

-- a root of the diagram was kept, or its function is named
abbrev pub IsHeldSince : Contents → (Function → Type 0) → Diagram → Type 0
IsHeldSince old IsNamed d = ((r : ℕ) × IsRoot old.state r × (d ≡ diagram_of old.state r)) ⊎ IsNamed (function_of old d)

-- `Budget` comes only where the diagrams kept at first, which are all there, and diagrams of named functions, with the
-- unfinished results of one operation on them, are exactly as many nodes as the budget
pub record HasCause {V : Type 0} (old new : Contents) (result : Result V Halt) (IsNamed : Function → Type 0) : Type 0 where
  pub crowded : result ≡ Err halt.Budget → IsCrowdedBy new.state.table (IsHeldSince old IsNamed)
  pub rooted : result ≡ Err halt.Budget → (n : ℕ) → IsRoot old.state n → IsEdge new.state n

-- a root of this function, or a refusal that leaves what is kept and has this cause
pub record MakesNamed (old new : Contents) (result : Result ℕ Halt) (f : Function) (IsNamed : Function → Type 0) : Type 0 where
  pub made : Makes old new result f
  pub cause : HasCause old new result IsNamed
