-- What contracts see of a table of nodes, and what its nodes mean.
use Rattle.std.specs.Prelude.{◌≡◌, ◌≢◌, ◌==◌, ◌+◌, ◌<◌, ◌≤◌, ◌⊎◌, ℕ, zero, suc, Bool, true, false, ◌||◌, if◌then◌else◌, List, [], ◌∷◌, length, Option, Some, None, slice_index_or, count_by, IsTrue}
use Rattle.std.specs.Prelude.{nat_lt}
use Rattle.spec_model.specs.Diagrams.{Diagram, constant, branch, IsPartOf}
use Rattle.node_table.specs.declared.node.Node.{Node}

-- each place's node, whether it is live, and whether it is marked. A place is the number of its node: 0 and 1 are
-- the constants
pub record Table : Type 0 where
  pub levels : ℕ
  pub budget : ℕ
  pub nodes : List Node
  pub live : List Bool
  pub marked : List Bool

-- the node of no place
abbrev pub no_node : Node
no_node = record { level = 0; low = 0; high = 0 }

-- ---- places

abbrev pub node_at : Table → ℕ → Node
node_at t n = slice_index_or t.nodes n no_node

abbrev pub level_at : Table → ℕ → ℕ
level_at t n = (node_at t n).level

abbrev pub low_at : Table → ℕ → ℕ
low_at t n = (node_at t n).low

abbrev pub high_at : Table → ℕ → ℕ
high_at t n = (node_at t n).high

abbrev pub is_live : Table → ℕ → Bool
is_live t n = slice_index_or t.live n false

abbrev pub is_marked : Table → ℕ → Bool
is_marked t n = slice_index_or t.marked n false

-- there is a live node at the place
abbrev pub IsLive : Table → ℕ → Type 0
IsLive t n = IsTrue (is_live t n)

abbrev pub IsMarked : Table → ℕ → Type 0
IsMarked t n = IsTrue (is_marked t n)

-- how many nodes are live, the constants among them
abbrev pub count_of : Table → ℕ
count_of t = count_by (λ b. b) t.live

-- a live node other than the constants has this level and these parts
pub record IsNodeAt (t : Table) (node : Node) (n : ℕ) : Type 0 where
  pub inner : 2 ≤ n
  pub live : IsLive t n
  pub has : node_at t n ≡ node

abbrev pub HasNode : Table → Node → Type 0
HasNode t node = (n : ℕ) × IsNodeAt t node n

-- level, low part and high part, and None for a constant
abbrev pub parts_of : Table → ℕ → Option (ℕ × ℕ × ℕ)
parts_of t n = if nat_lt n 2 then None else Some (level_at t n, low_at t n, high_at t n)

-- ---- what nodes mean

-- the diagram of a node, as far as this many levels down
abbrev pub grown : Table → ℕ → ℕ → Diagram
grown t zero n = constant (n == 1)
grown t (suc depth) n =
    if nat_lt n 2 then constant (n == 1) else branch (level_at t n) (grown t depth (low_at t n)) (grown t depth (high_at t n))

-- the diagram that a node stands for
abbrev pub diagram_at : Table → ℕ → Diagram
diagram_at t n = grown t t.levels n

-- ---- sound tables

-- the node may stand in the table: its level is one, and its parts are two live nodes of later levels
pub record IsFit (t : Table) (node : Node) : Type 0 where
  pub below : node.level < t.levels
  pub unlike : node.low ≢ node.high
  pub low_live : IsLive t node.low
  pub high_live : IsLive t node.high
  pub low_later : node.level < level_at t node.low
  pub high_later : node.level < level_at t node.high

-- no two live nodes are alike, each is fit, and what a marked node reaches is marked
pub record IsSound (t : Table) : Type 0 where
  pub constants : 2 ≤ length t.nodes
  pub flags : length t.live ≡ length t.nodes
  pub marks : length t.marked ≡ length t.nodes
  pub within : count_of t ≤ t.budget
  pub false_live : IsLive t 0
  pub true_live : IsLive t 1
  pub false_last : level_at t 0 ≡ t.levels
  pub true_last : level_at t 1 ≡ t.levels
  pub fit : (n : ℕ) → 2 ≤ n → IsLive t n → IsFit t (node_at t n)
  pub unlike : (n m : ℕ) → 2 ≤ n → 2 ≤ m → IsLive t n → IsLive t m → node_at t n ≡ node_at t m → n ≡ m
  pub marked_live : (n : ℕ) → IsMarked t n → IsLive t n
  pub low_marked : (n : ℕ) → 2 ≤ n → IsMarked t n → IsMarked t (low_at t n)
  pub high_marked : (n : ℕ) → 2 ≤ n → IsMarked t n → IsMarked t (high_at t n)

-- ---- changes

-- a new table: the constants alone
pub record IsNew (t : Table) (levels budget : ℕ) : Type 0 where
  pub has_levels : t.levels ≡ levels
  pub has_budget : t.budget ≡ budget
  pub live : t.live ≡ true ∷ true ∷ []
  pub marked : t.marked ≡ false ∷ false ∷ []

-- the levels and the budget stay
pub record SameBounds (old new : Table) : Type 0 where
  pub levels : new.levels ≡ old.levels
  pub budget : new.budget ≡ old.budget

-- one node came at a place where none was; the others stay as they were
pub record AddsNode (old new : Table) (n : ℕ) : Type 0 where
  pub bounds : SameBounds old new
  pub was_free : is_live old n ≡ false
  pub count : count_of new ≡ count_of old + 1
  pub live : (k : ℕ) → k ≢ n → is_live new k ≡ is_live old k
  pub marked : (k : ℕ) → is_marked new k ≡ is_marked old k
  pub nodes : (k : ℕ) → IsLive old k → node_at new k ≡ node_at old k

-- what is live stays, and stands for what it stood for
pub record KeepsLive (old new : Table) : Type 0 where
  pub live : (k : ℕ) → IsLive old k → IsLive new k
  pub meaning : (k : ℕ) → IsLive old k → diagram_at new k ≡ diagram_at old k

-- the node and all that it reaches are marked, and else nothing changes
pub record MarksNode (old new : Table) (n : ℕ) : Type 0 where
  pub same : new ≡ record old { marked = new.marked }
  pub kept : (k : ℕ) → IsMarked old k → IsMarked new k
  pub reached : (k : ℕ) → IsLive old k → IsPartOf (diagram_at old k) (diagram_at old n) → IsMarked new k
  pub only : (k : ℕ) → IsMarked new k → IsMarked old k ⊎ IsPartOf (diagram_at old k) (diagram_at old n)

-- exactly the marked nodes and the constants stay, with what they stood for, and no mark is left
pub record Sweeps (old new : Table) : Type 0 where
  pub bounds : SameBounds old new
  pub nodes : new.nodes ≡ old.nodes
  pub live : (k : ℕ) → is_live new k ≡ (nat_lt k 2 || is_marked old k)
  pub marked : (k : ℕ) → is_marked new k ≡ false
  pub meaning : (k : ℕ) → IsLive new k → diagram_at new k ≡ diagram_at old k
