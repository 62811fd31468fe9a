-- The search for the first bits, through a row of edges for each level that it stands at. No public clause cites this
-- file.
use Rattle.std.specs.Prelude.{◌≡◌, ◌≤◌, ◌<◌, ◌+◌, ◌*◌, ◌-◌, ℕ, zero, suc, Bool, true, false, if◌then◌else◌, Option, Some, None, List, [], ◌∷◌, min, take, drop}
use Rattle.spec_model.specs.Diagrams.{Bits}
use Rattle.bdd_store.specs.declared.edge.Edge.{Edge}
use Rattle.bdd_ops.specs.Contents.{Contents}
use Rattle.bdd_ops.specs.Steps.{level_at}
use Rattle.bdd_ops.specs.Paths.{AgreesAt, Agrees, fixed_at, HasNone}
use Rattle.bdd_ops.specs.Together.{IsRow, all_in, AreFirst, HasNoneWith}

-- the row at a depth, where rows of this width stand behind one another
abbrev pub row_at : List Edge → ℕ → ℕ → List Edge
row_at rows width depth = take width (drop (depth * width) rows)

-- the least level at which an edge stands
abbrev pub top_of : Contents → List Edge → ℕ
top_of c [] = c.state.table.levels
top_of c (e ∷ es) = min (level_at c e.0) (top_of c es)

-- the level that the row at a depth is looked at from
abbrev pub level_for : Contents → (ℕ → List Edge) → ℕ → ℕ
level_for c rows zero = 0
level_for c rows (suc depth) = top_of c (rows depth) + 1

-- the second row is what a bit that may stand at the level, and the fixed bits behind it, leave of the first
pub record IsNext (c : Contents) (fixed : List (Option Bool)) (level : ℕ) (bit : Bool) (old new : List Edge) : Type 0 where
  pub allowed : AgreesAt (fixed_at fixed level) bit
  pub row : IsRow c (level + 1) new
  pub same : (s : Bits) → s level ≡ bit → Agrees fixed (level + 1) s → all_in c new s ≡ all_in c old s

-- the second row is what the bit at the top leaves of the first; if that is true, false has none
pub record IsTried (c : Contents) (fixed : List (Option Bool)) (bits : Bits) (level : ℕ) (old new : List Edge) : Type 0 where
  pub below : top_of c old < c.state.table.levels
  pub above : level ≤ top_of c old
  pub idle : AreFirst fixed level (top_of c old) bits
  pub leads : IsNext c fixed (top_of c old) (bits (top_of c old)) old new
  pub low_none : bits (top_of c old) ≡ true → HasNoneWith fixed (all_in c old) (top_of c old) false

-- what is known at a row: no bit makes it true, or those before the one that comes next don't
abbrev pub IsLeft : Contents → List (Option Bool) → ℕ → List Edge → Option Bool → Type 0
IsLeft c fixed level row None = HasNone fixed (all_in c row) level
IsLeft c fixed level row (Some bit) = bit ≡ true → HasNoneWith fixed (all_in c row) (top_of c row) false

-- the search stands at a depth: each row above leads to the one below it
pub record IsSearch (c : Contents) (fixed : List (Option Bool)) (rows : ℕ → List Edge) (bits : Bits) (depth : ℕ) (next : Option Bool) : Type 0 where
  pub each : (i : ℕ) → i ≤ depth → IsRow c (level_for c rows i) (rows i)
  pub tried : (i : ℕ) → i < depth → IsTried c fixed bits (level_for c rows i) (rows i) (rows (i + 1))
  pub rising : (i j : ℕ) → i < j → j ≤ depth → top_of c (rows i) < level_for c rows j
  pub deep : (i : ℕ) → i ≤ depth → i ≤ level_for c rows i
  pub within : level_for c rows depth ≤ c.state.table.levels
  pub idle : AreFirst fixed (level_for c rows depth) c.state.table.levels bits
  pub left : IsLeft c fixed (level_for c rows depth) (rows depth) next

-- ---- how many steps are left

-- of the search from a row on, over so many levels
abbrev pub cost : ℕ → ℕ
cost zero = 2
cost (suc count) = 2 * cost count + 5

-- the same, with what comes next there
abbrev pub cost_of : Option Bool → ℕ → ℕ
cost_of None count = 1
cost_of (Some bit) count = if bit then 3 + cost (count - 1) else cost count

-- what comes next behind a bit
abbrev pub next_of : Bool → Option Bool
next_of bit = if bit then None else Some true

-- of the rows above a depth, whose bits are these
abbrev pub pending : (ℕ → Bool) → ℕ → ℕ → ℕ
pending bits levels zero = 0
pending bits levels (suc depth) = pending bits levels depth + cost_of (next_of (bits depth)) (levels - depth)
