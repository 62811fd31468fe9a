-- What a budget is filled with where it ends a copy: diagrams that are held, and what one operation on them made so far.
use Rattle.std.specs.Prelude.{◌≡◌, ◌<◌, ◌⊎◌, ℕ, List, [], ◌∷◌}
use Rattle.std.specs.List.{AllByRecursion, Contains}
use Rattle.spec_model.specs.Diagrams.{Diagram, Function, value, IsPartOf, IsReduced}
use Rattle.node_table.specs.Table.{Table, IsLive, diagram_at}
use Rattle.bdd_store.specs.State.{State, IsRoot, diagram_of, IsFilled}
use Rattle.bdd_ops.specs.Unfinished.{IsChoiceOfParts}
use Rattle.bdd_reorder.specs.Rearranged.{IsOfCopy}

-- one operation on diagrams: a level's bit, or a choice
pub data Running : Type 0 where
  bit : ℕ → Running
  choice : Diagram → Diagram → Diagram → Running

abbrev pub arguments_of : Running → List Diagram
arguments_of (bit level) = []
arguments_of (choice a b c) = a ∷ b ∷ c ∷ []

-- what it makes on the way
abbrev pub IsUnfinishedOf : Running → Diagram → Type 0
IsUnfinishedOf (bit level) made = value made ≡ (λ s. s level)
IsUnfinishedOf (choice a b c) made = IsChoiceOfParts a b c made

-- a root of the diagram was kept, or its function is named
abbrev pub IsHeldSince : State → (Function → Type 0) → Diagram → Type 0
IsHeldSince old IsNamed d = ((r : ℕ) × IsRoot old r × (d ≡ diagram_of old r)) ⊎ IsNamed (value d)

-- the node stands in a diagram that is held, whose nodes are all in the table
pub record StandsIn (t : Table) (IsHeld : Diagram → Type 0) (n : ℕ) : Type 0 where
  pub root : ℕ
  pub live : IsLive t root
  pub held : IsHeld (diagram_at t root)
  pub part : IsPartOf (diagram_at t n) (diagram_at t root)

-- The table holds exactly its budget of nodes: the constants, parts of diagrams that were kept at first, which are all
-- there, or whose functions are named, and parts of unfinished results of one operation on such diagrams.
pub record IsCrowdedSince (old : State) (t : Table) (IsNamed : Function → Type 0) : Type 0 where
  pub filled : IsFilled t
  pub rooted : (n : ℕ) → IsRoot old n → IsLive t n
  pub running : Running
  pub on_held : AllByRecursion (IsHeldSince old IsNamed) (arguments_of running)
  pub reduced : AllByRecursion IsReduced (arguments_of running)
  pub needed : (n : ℕ) → IsLive t n → (n < 2) ⊎ (StandsIn t (IsHeldSince old IsNamed) n ⊎ StandsIn t (IsUnfinishedOf running) n)

-- The budget is filled by what was kept at first, by rearranged functions of some of these diagrams and of some parts of one
-- of them, which is reduced, by one level's bit at most, and by one operation's unfinished results on these.
pub record IsCrowdedByCopy (old : State) (t : Table) (levels : List ℕ) (ds : List Diagram) : Type 0 where
  pub whole : Diagram
  pub is_one : Contains ds whole
  pub reduced : IsReduced whole
  pub level : ℕ
  pub crowded : IsCrowdedSince old t (IsOfCopy levels ds whole level)
