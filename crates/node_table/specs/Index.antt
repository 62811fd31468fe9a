-- The unique table's index: where a node's number stands among the slots. No public clause cites this file.
use Rattle.std.specs.Prelude.{◌≡◌, ◌≢◌, ◌+◌, ◌-◌, ◌*◌, ◌/◌, ◌%◌, ◌^◌, ◌<◌, ◌≤◌, ◌⊎◌, ◌==◌, ℕ, Bool, false, not, if◌then◌else◌, List, length, slice_index, slice_index_or, count_by, bit_and, IsTrue}
use Rattle.std.specs.Prelude.{nat_lt}
use Rattle.node_table.specs.declared.node.Node.{Node}
use Rattle.spec_model.specs.Diagrams.{IsPartOf}
use Rattle.node_table.specs.Table.{Table, no_node, IsSound, IsLive, IsMarked, MarksNode, count_of, is_marked, level_at, diagram_at}

-- what two numbers are mixed into, by odd factors near the golden ratio's multiples (Knuth, multiplicative hashing)
abbrev pub mixed : ℕ → ℕ → ℕ
mixed part level = (part * 0x9e3779b97f4a7c15 % 2 ^ 64 + level * 0xd6e8feb86659fd93 % 2 ^ 64) % 2 ^ 64

-- the part of a node that has the greater number, and the other one
abbrev pub newer : Node → ℕ
newer node = if nat_lt node.low node.high then node.high else node.low

abbrev pub older : Node → ℕ
older node = if nat_lt node.low node.high then node.low else node.high

-- the slot where the search for a node looks first: it stands near those of nodes over parts that were made as late
abbrev pub near_of : Node → ℕ → ℕ
near_of node size = bit_and (mixed (older node) node.level / 2 ^ 54 + 4 * newer node) (size - 1)

-- the slot from which the search goes on: nodes over low parts that were made together stand together
abbrev pub start_of : Node → ℕ → ℕ
start_of node size = bit_and (mixed node.high node.level / 2 ^ 32 + 4 * node.low) (size - 1)

-- the slot that is so many steps behind another, the first following the last
abbrev pub slot_after : ℕ → ℕ → ℕ → ℕ
slot_after size start steps = if nat_lt (start + steps) size then start + steps else start + steps - size

-- the slot of the search's steps: the first, and then one behind the other
abbrev pub slot_for : List ℕ → Node → ℕ → ℕ
slot_for slots node steps = if steps == 0 then near_of node (length slots) else slot_after (length slots) (start_of node (length slots)) (steps - 1)

-- what stands in the slot of the search's steps
abbrev pub named_at : List ℕ → Node → ℕ → ℕ
named_at slots node steps = slice_index slots (slot_for slots node steps)

-- how many slots name a node
abbrev pub used : List ℕ → ℕ
used slots = count_by (λ n. not (n == 0)) slots

abbrev pub node_of : List Node → ℕ → Node
node_of nodes n = slice_index_or nodes n no_node

-- what stands in a slot is another node's number
abbrev pub IsPassed : List Node → Node → ℕ → Type 0
IsPassed nodes node named = (named ≢ 0) × (node_of nodes named ≢ node)

-- the slot is empty, or names the node
abbrev pub HasEnded : List ℕ → List Node → Node → ℕ → Type 0
HasEnded slots nodes node at = (slice_index slots at ≡ 0) ⊎ ((slice_index slots at ≢ 0) × (node_of nodes (slice_index slots at) ≡ node))

-- the search for a node ends at the slot: each slot before it names another node, and it is empty or names that node
pub record EndsAt (slots : List ℕ) (nodes : List Node) (node : Node) (at : ℕ) : Type 0 where
  pub steps : ℕ
  pub within : steps ≤ length slots
  pub place : at ≡ slot_for slots node steps
  pub passed : (d : ℕ) → d < steps → (named_at slots node d ≢ 0) × (node_of nodes (named_at slots node d) ≢ node)
  pub ends : (slice_index slots at ≡ 0) ⊎ ((slice_index slots at ≢ 0) × (node_of nodes (slice_index slots at) ≡ node))

-- the search for a node's own triple meets its number before an empty slot
pub record IsNamed (slots : List ℕ) (nodes : List Node) (n : ℕ) : Type 0 where
  pub steps : ℕ
  pub within : steps ≤ length slots
  pub named : named_at slots (node_of nodes n) steps ≡ n
  pub passed : (d : ℕ) → d < steps → named_at slots (node_of nodes n) d ≢ 0

-- exactly these nodes are named
pub record IsIndex (slots : List ℕ) (nodes : List Node) (listed : ℕ → Type 0) : Type 0 where
  pub named : (n : ℕ) → listed n → IsNamed slots nodes n
  pub lists : (k : ℕ) → slice_index slots k ≢ 0 → listed (slice_index slots k)

-- the live nodes below a number, without the constants
abbrev pub LiveBelow : List Bool → ℕ → ℕ → Type 0
LiveBelow live end n = (2 ≤ n) × (n < end) × IsTrue (slice_index_or live n false)

abbrev pub IsIndexOf : List ℕ → List Node → List Bool → Type 0
IsIndexOf slots nodes live = IsIndex slots nodes (LiveBelow live (length nodes))

-- the columns and the index fit: the places below `free` are live, and fewer slots are used than there are
pub record IsKept (t : Table) (slots : List ℕ) (count free : ℕ) : Type 0 where
  pub sound : IsSound t
  pub counted : count ≡ count_of t
  pub small : length t.nodes ≤ t.budget
  pub index : IsIndexOf slots t.nodes t.live
  pub names : used slots + 2 ≡ count
  pub room : count ≤ length slots
  pub taken : (n : ℕ) → n < free → IsTrue (slice_index_or t.live n false)
  pub free_within : free ≤ length t.nodes

-- each node has a flag, and the constants are live
pub record IsFlagged (nodes : List Node) (live : List Bool) : Type 0 where
  pub same_length : length live ≡ length nodes
  pub constants : 2 ≤ length nodes
  pub false_live : IsTrue (slice_index_or live 0 false)
  pub true_live : IsTrue (slice_index_or live 1 false)

-- no two live nodes other than the constants are alike
abbrev pub IsApart : List Node → List Bool → Type 0
IsApart nodes live = (n m : ℕ) → 2 ≤ n → 2 ≤ m → IsTrue (slice_index_or live n false) → IsTrue (slice_index_or live m false) → node_of nodes n ≡ node_of nodes m → n ≡ m

-- the columns after a node came at a free place
pub record Settles (nodes nodes' : List Node) (live live' marked marked' : List Bool) (n : ℕ) (node : Node) : Type 0 where
  pub no_shorter : length nodes ≤ length nodes'
  pub within : n < length nodes'
  pub no_longer : (length nodes' ≡ length nodes) ⊎ ((n ≡ length nodes) × (length nodes' ≡ n + 1))
  pub flags : length live' ≡ length nodes'
  pub marks : length marked' ≡ length nodes'
  pub here : node_of nodes' n ≡ node
  pub live_here : IsTrue (slice_index_or live' n false)
  pub others : (k : ℕ) → k ≢ n → node_of nodes' k ≡ node_of nodes k
  pub other_flags : (k : ℕ) → k ≢ n → slice_index_or live' k false ≡ slice_index_or live k false
  pub other_marks : (k : ℕ) → slice_index_or marked' k false ≡ slice_index_or marked k false
  pub count : count_by (λ b. b) live' ≡ count_by (λ b. b) live + 1

-- ---- marking

abbrev pub with_columns : Table → List Node → List Bool → Table
with_columns t nodes marked = record t { nodes = nodes; marked = marked }

-- the table is sound, the node is one of its live and unmarked ones, and there is room for a way down from it
pub record IsMarkable (t : Table) (n places : ℕ) : Type 0 where
  pub sound : IsSound t
  pub live : IsLive t n
  pub unmarked : is_marked t n ≡ false
  pub room : t.levels < places

-- the node and all that it reaches are marked
pub record IsMarkedFrom (old new : Table) (n : ℕ) : Type 0 where
  pub marks : MarksNode old new n
  pub sound : IsSound new

-- a constant, or a node with both parts marked
abbrev pub HasPartsMarked : List Node → List Bool → ℕ → Type 0
HasPartsMarked nodes marked n = 2 ≤ n → IsTrue (slice_index_or marked (node_of nodes n).low false) × IsTrue (slice_index_or marked (node_of nodes n).high false)

-- an unmarked part of the node
pub record IsUnmarkedPart (nodes : List Node) (marked : List Bool) (n part : ℕ) : Type 0 where
  pub inner : 2 ≤ n
  pub one : (part ≡ (node_of nodes n).low) ⊎ (part ≡ (node_of nodes n).high)
  pub unmarked : slice_index_or marked part false ≡ false

-- the table after some of what the node reaches was marked, and the first so many entries of the way: each is an
-- unmarked node of a later level than those before it, and the first is the node
pub record IsWalk (old new : Table) (way : List ℕ) (n depth : ℕ) : Type 0 where
  pub sound : IsSound new
  pub kept : (k : ℕ) → IsMarked old k → IsMarked new k
  pub only : (k : ℕ) → IsMarked new k → IsMarked old k ⊎ IsPartOf (diagram_at old k) (diagram_at old n)
  pub live : (i : ℕ) → i < depth → IsLive old (slice_index way i)
  pub unmarked : (i : ℕ) → i < depth → is_marked new (slice_index way i) ≡ false
  pub part : (i : ℕ) → i < depth → IsPartOf (diagram_at old (slice_index way i)) (diagram_at old n)
  pub rising : (i j : ℕ) → i < j → j < depth → level_at old (slice_index way i) < level_at old (slice_index way j)
  pub deep : (i : ℕ) → i < depth → i ≤ level_at old (slice_index way i)
  pub first : slice_index way 0 ≡ n
  pub ended : depth ≡ 0 → IsMarked new n
