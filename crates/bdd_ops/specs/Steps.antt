-- What one step of an operation gives and leaves.
use Rattle.std.specs.Prelude.{◌≡◌, ◌<◌, ◌⊎◌, ℕ, true, List, length, slice_index_or, if◌then◌else◌}
use Rattle.spec_model.specs.Diagrams.{Diagram, constant, branch, Function, value, ite, IsPartOf}
use Rattle.spec_model.specs.DiagramReads.{Reads}
use Rattle.bdd_store.specs.State.{IsEdge, diagram_of, IsFull, IsHeldBy, KeepsHeld, SameRoots}
use Rattle.bdd_ops.specs.Functions.{split, Join, joined, joined_over, join_of, is_among}
use Rattle.bdd_ops.specs.Reading.{IgnoresTo}
use Rattle.bdd_ops.specs.Contents.{Contents, function_at}
pub use Rattle.bdd_ops.specs.Unfinished.{IsChoiceOfParts, IsJoinOfParts, JoinsResults, IsUnfinished, IsRelatedPart, IsShiftedPart}
pub use Rattle.bdd_ops.specs.Standing.{StandsInMade}

-- the diagram's level, and for a constant the number of levels
abbrev pub level_of : ℕ → Diagram → ℕ
level_of levels (constant b) = levels
level_of levels (branch level low high) = level

abbrev pub level_at : Contents → ℕ → ℕ
level_at c n = level_of c.state.table.levels (diagram_of c.state n)

-- kept roots and lists stay, and all that kept roots and these nodes hold
pub record Works (old new : Contents) (starts : List ℕ) : Type 0 where
  pub lists : new.lists ≡ old.lists
  pub roots : SameRoots old.state new.state
  pub keeps : KeepsHeld old.state new.state starts

-- the store holds exactly its budget, and each node is held by kept roots and these nodes, or stands in one that may be made
pub record IsSpent (c : Contents) (starts : List ℕ) (MayMake : Diagram → Type 0) : Type 0 where
  pub full : IsFull c.state
  pub needed : (n : ℕ) → IsEdge c.state n → IsHeldBy c.state starts n ⊎ StandsInMade c.state MayMake n

-- the two parts of a node at a level: each is a part of its diagram, of later levels
pub record IsSplitAt (c : Contents) (level n low high : ℕ) : Type 0 where
  pub low_live : IsEdge c.state low
  pub high_live : IsEdge c.state high
  pub low_after : level < level_at c low
  pub high_after : level < level_at c high
  pub low_ignores : IgnoresTo level (function_at c low)
  pub high_ignores : IgnoresTo level (function_at c high)
  pub low_reads : (x : ℕ) → Reads x (diagram_of c.state low) → level < x
  pub high_reads : (x : ℕ) → Reads x (diagram_of c.state high) → level < x
  pub low_part : IsPartOf (diagram_of c.state low) (diagram_of c.state n)
  pub high_part : IsPartOf (diagram_of c.state high) (diagram_of c.state n)
  pub function : function_at c n ≡ split level (function_at c low) (function_at c high)

-- the node is live and is the choice between the three
pub record IsChoice (new : Contents) (f g h : Function) (n : ℕ) : Type 0 where
  pub live : IsEdge new.state n
  pub function : function_at new n ≡ ite f g h

-- the table, the kept roots and the lists stay
pub record SameNodes (old new : Contents) : Type 0 where
  pub table : new.state.table ≡ old.state.table
  pub kept : new.state.kept ≡ old.state.kept
  pub lists : new.lists ≡ old.lists

-- the node is live and is split at the level into these two functions
pub record IsSplit (new : Contents) (level : ℕ) (low high : Function) (n : ℕ) : Type 0 where
  pub live : IsEdge new.state n
  pub function : function_at new n ≡ split level low high

-- the node is live and has this function
pub record HasFunction (new : Contents) (f : Function) (n : ℕ) : Type 0 where
  pub live : IsEdge new.state n
  pub function : function_at new n ≡ f

-- the diagram is a part's function after these levels are quantified
pub record IsQuantifiedPart (join : Join) (levels : List ℕ) (a made : Diagram) : Type 0 where
  pub x : Diagram
  pub x_part : IsPartOf x a
  pub is_quantified : value made ≡ joined_over join levels (value x)

-- both functions joined where the level is among these, and else split at it
abbrev pub joined_or_split : Join → List ℕ → ℕ → Function → Function → Function
joined_or_split join levels level low high = if is_among level levels then joined join low high else split level low high

-- the diagram joins parts of both, or is that function
abbrev pub JoinsOrSplits : Join → List ℕ → ℕ → Diagram → Diagram → Diagram → Type 0
JoinsOrSplits join levels level low high made = IsJoinOfParts join low high made ⊎ (value made ≡ joined_or_split join levels level (value low) (value high))

-- the node is the conjunction of two, and one of them, and its parts are conjunctions of theirs
pub record IsConjunctionAt (c : Contents) (a b n : ℕ) : Type 0 where
  pub live : IsEdge c.state n
  pub one : (n ≡ a) ⊎ (n ≡ b)
  pub function : function_at c n ≡ joined (join_of true) (function_at c a) (function_at c b)
  pub parts : (x : Diagram) → IsPartOf x (diagram_of c.state n) → IsJoinOfParts (join_of true) (diagram_of c.state a) (diagram_of c.state b) x

-- the list gives each level that the diagram reads a level, and rises over them
pub record IsShift (levels : ℕ) (to : List ℕ) (d : Diagram) : Type 0 where
  pub known : (x : ℕ) → Reads x d → x < length to
  pub below : (x : ℕ) → Reads x d → slice_index_or to x x < levels
  pub rising : (x y : ℕ) → Reads x d → Reads y d → x < y → slice_index_or to x x < slice_index_or to y y
