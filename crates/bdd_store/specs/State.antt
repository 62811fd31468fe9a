-- What contracts see of a store: its nodes, the roots that are kept, the work stack, and the answers that it remembers.
use Rattle.std.specs.Prelude.{◌≡◌, ◌≢◌, ◌==◌, ◌<◌, ◌≤◌, ◌+◌, ◌⊎◌, ℕ, Bool, List, [], slice_index, if◌then◌else◌}
use Rattle.std.specs.List.{Contains}
use Rattle.spec_model.specs.Diagrams.{Diagram, constant, branch, value, IsReduced, IsLater, IsWithin, IsPartOf}
use Rattle.node_table.specs.Table.{Table, IsLive, diagram_at, count_of, IsSound}
use Rattle.bdd_cache.specs.declared.answer.Answer.{Answer}
use Rattle.bdd_cache.specs.Kept.{IsKept}

-- the nodes, how many roots are kept at each place, what an operation that is under way still needs, the last behind the
-- others, and the answers
pub record State : Type 0 where
  pub table : Table
  pub kept : List ℕ
  pub stack : List ℕ
  pub answers : List Answer

-- a live node
abbrev pub IsEdge : State → ℕ → Type 0
IsEdge s n = IsLive s.table n

-- the diagram that a node stands for
abbrev pub diagram_of : State → ℕ → Diagram
diagram_of s n = diagram_at s.table n

-- how many roots are kept at a node
abbrev pub roots_at : State → ℕ → ℕ
roots_at s n = slice_index s.kept n

-- a root is kept at the node
abbrev pub IsRoot : State → ℕ → Type 0
IsRoot s n = 0 < roots_at s n

-- a live node stands for the diagram
abbrev pub HasDiagram : State → Diagram → Type 0
HasDiagram s d = (n : ℕ) × IsEdge s n × (diagram_of s n ≡ d)

-- the nodes are sound, and as many as the budget
pub record IsFilled (t : Table) : Type 0 where
  pub sound : IsSound t
  pub count : count_of t ≡ t.budget

-- the store holds its budget of nodes
abbrev pub IsFull : State → Type 0
IsFull s = IsFilled s.table

-- the answer is remembered
abbrev pub HasAnswer : State → Answer → Type 0
HasAnswer s a = IsKept s.answers a

-- each node that the answer speaks of is live
abbrev pub IsOfLiveNodes : State → Answer → Type 0
IsOfLiveNodes s a = IsEdge s a.a × IsEdge s a.b × IsEdge s a.c × IsEdge s a.r

-- roots, the stack and answers are of live nodes, which stand for reduced diagrams, and one node stands for each function
pub record IsStore (s : State) : Type 0 where
  pub sound : IsSound s.table
  pub roots_live : (n : ℕ) → IsRoot s n → IsEdge s n
  pub stack_live : (n : ℕ) → Contains s.stack n → IsEdge s n
  pub answers_live : (a : Answer) → HasAnswer s a → IsOfLiveNodes s a
  pub reduced : (n : ℕ) → IsEdge s n → IsReduced (diagram_of s n)
  pub within : (n : ℕ) → IsEdge s n → IsWithin s.table.levels (diagram_of s n)
  pub one : (n m : ℕ) → IsEdge s n → IsEdge s m → value (diagram_of s n) ≡ value (diagram_of s m) → n ≡ m

-- what is live stays, and stands for what it stood for
pub record KeepsEdges (old new : State) : Type 0 where
  pub levels : new.table.levels ≡ old.table.levels
  pub budget : new.table.budget ≡ old.table.budget
  pub live : (n : ℕ) → IsEdge old n → IsEdge new n
  pub meaning : (n : ℕ) → IsEdge old n → diagram_of new n ≡ diagram_of old n

-- the node was there, and stands for what it stood for
abbrev pub WasThere : State → State → ℕ → Type 0
WasThere old new n = IsEdge old n × (diagram_of new n ≡ diagram_of old n)

-- each node that the answer speaks of was there, and stands for what it stood for
pub record WereThere (old new : State) (x : Answer) : Type 0 where
  pub a : WasThere old new x.a
  pub b : WasThere old new x.b
  pub c : WasThere old new x.c
  pub r : WasThere old new x.r

-- no answer comes, and each that stays is about nodes that stand for what they stood for
abbrev pub KeepsAnswers : State → State → Type 0
KeepsAnswers old new = (a : Answer) → HasAnswer new a → HasAnswer old a × WereThere old new a

-- the node's diagram is a part of that of a kept root or of one of these nodes
abbrev pub IsUnder : State → List ℕ → ℕ → Type 0
IsUnder s starts n = (r : ℕ) × (IsRoot s r ⊎ Contains starts r) × IsEdge s r × IsPartOf (diagram_of s n) (diagram_of s r)

-- the node stands for a constant
abbrev pub IsFixed : State → ℕ → Type 0
IsFixed s n = (b : Bool) × (diagram_of s n ≡ constant b)

-- the node is live, and a constant or below a kept root or one of these nodes
pub record IsHeldBy (s : State) (starts : List ℕ) (n : ℕ) : Type 0 where
  pub live : IsEdge s n
  pub needed : IsFixed s n ⊎ IsUnder s starts n

-- the same of the nodes on the stack
abbrev pub IsHeld : State → ℕ → Type 0
IsHeld s n = IsHeldBy s s.stack n

-- what kept roots and these nodes hold stays, and stands for what it stood for
pub record KeepsHeld (old new : State) (starts : List ℕ) : Type 0 where
  pub levels : new.table.levels ≡ old.table.levels
  pub budget : new.table.budget ≡ old.table.budget
  pub held : (n : ℕ) → IsHeldBy old starts n → IsEdge new n × (diagram_of new n ≡ diagram_of old n)

-- the store holds its budget of nodes, and kept roots and these nodes hold each of them
pub record IsFullOf (s : State) (starts : List ℕ) : Type 0 where
  pub full : IsFull s
  pub held : (n : ℕ) → IsEdge s n → IsHeldBy s starts n

-- each node has as many roots as before
abbrev pub SameRoots : State → State → Type 0
SameRoots old new = (n : ℕ) → roots_at new n ≡ roots_at old n

-- one more root is kept at the node
abbrev pub AddsRoot : State → State → ℕ → Type 0
AddsRoot old new root = (n : ℕ) → roots_at new n ≡ roots_at old n + (if n == root then 1 else 0)

-- the node's diagram is a part of a kept root's
abbrev pub IsReached : State → ℕ → Type 0
IsReached s n = (r : ℕ) × IsRoot s r × IsEdge s n × IsPartOf (diagram_of s n) (diagram_of s r)

-- the node is a constant
pub record IsConstant (s : State) (n : ℕ) : Type 0 where
  pub outer : n < 2
  pub meaning : diagram_of s n ≡ constant (n == 1)

-- the node has this level and these parts, two different live nodes of later levels
pub record HasParts (s : State) (n level low high : ℕ) : Type 0 where
  pub inner : 2 ≤ n
  pub below : level < s.table.levels
  pub low_live : IsEdge s low
  pub high_live : IsEdge s high
  pub unlike : low ≢ high
  pub meaning : diagram_of s n ≡ branch level (diagram_of s low) (diagram_of s high)
  pub low_later : IsLater level (diagram_of s low)
  pub high_later : IsLater level (diagram_of s high)

-- a new store: the constants, no root, nothing on the stack and no answer
pub record IsNewStore (s : State) (levels budget : ℕ) : Type 0 where
  pub store : IsStore s
  pub has_levels : s.table.levels ≡ levels
  pub has_budget : s.table.budget ≡ budget
  pub count : count_of s.table ≡ 2
  pub no_root : (n : ℕ) → roots_at s n ≡ 0
  pub no_entry : s.stack ≡ []
  pub no_answer : (a : Answer) → HasAnswer s a → ⊥
