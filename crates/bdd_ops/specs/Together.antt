-- Roots that are to be true together, and the rows of edges that a search for them goes through.
use Rattle.std.specs.Prelude.{◌≡◌, ◌≤◌, ◌<◌, ◌+◌, ℕ, Bool, true, false, ◌&&◌, Option, Some, None, List, [], ◌∷◌, map, slice_index_or}
use Rattle.std.specs.List.{All}
use Rattle.spec_model.specs.Diagrams.{Bits, Function}
use Rattle.bdd_store.specs.declared.edge.Edge.{Edge}
use Rattle.bdd_store.specs.State.{IsEdge}
use Rattle.bdd_ops.specs.Contents.{Contents, function_at}
use Rattle.bdd_ops.specs.Steps.{level_at}
use Rattle.bdd_ops.specs.Paths.{Agrees, fixed_at, NotAfter}

-- the roots that are asked for together, how many there may be, and over how many levels
pub record Together : Type 0 where
  pub levels : ℕ
  pub most : ℕ
  pub roots : List ℕ

-- all of these nodes are true
abbrev pub all_of : Contents → List ℕ → Function
all_of c [] s = true
all_of c (n ∷ ns) s = function_at c n s && all_of c ns s

-- ---- rows of edges. No public clause cites what follows.

-- all edges of the row are true
abbrev pub all_in : Contents → List Edge → Function
all_in c row = all_of c (map (λ (e : Edge). e.0) row)

-- each edge is live, and none stands before the level
pub record IsRow (c : Contents) (level : ℕ) (row : List Edge) : Type 0 where
  pub live : All (λ e. IsEdge c.state e.0) row
  pub from : All (λ e. level ≤ level_at c e.0) row

-- the second edge is what a bit at the level leaves of the first
pub record IsChosen (c : Contents) (level : ℕ) (bit : Bool) (e f : Edge) : Type 0 where
  pub live : IsEdge c.state f.0
  pub after : level < level_at c f.0
  pub same : (s : Bits) → s level ≡ bit → function_at c f.0 s ≡ function_at c e.0 s

-- the second edge is what fixed bits from a level on leave of the first
pub record IsSettled (c : Contents) (fixed : List (Option Bool)) (e f : Edge) : Type 0 where
  pub live : IsEdge c.state f.0
  pub later : level_at c e.0 ≤ level_at c f.0
  pub same : (s : Bits) → Agrees fixed (level_at c e.0) s → function_at c f.0 s ≡ function_at c e.0 s

-- the second row is what fixed bits from the level on leave of the first
pub record SettlesRow (c : Contents) (fixed : List (Option Bool)) (level : ℕ) (old new : List Edge) : Type 0 where
  pub row : IsRow c level new
  pub same : (s : Bits) → Agrees fixed level s → all_in c new s ≡ all_in c old s

-- the level is the least at which one of the first so many edges stands, and at most so many levels
pub record IsLeast (c : Contents) (row : List Edge) (levels count least : ℕ) : Type 0 where
  pub within : least ≤ levels
  pub from : (k : ℕ) (d : Edge) → k < count → least ≤ level_at c (slice_index_or row k d).0
  pub no_less : (level : ℕ) → level ≤ levels → IsRow c level row → level ≤ least

-- the first so many edges of the second row are what fixed bits leave of those of the first, and the rest are the same
pub record SettlesSome (c : Contents) (fixed : List (Option Bool)) (old new : List Edge) (count : ℕ) : Type 0 where
  pub each : (k : ℕ) (d : Edge) → k < count → IsSettled c fixed (slice_index_or old k d) (slice_index_or new k d)
  pub rest : (k : ℕ) (d : Edge) → count ≤ k → slice_index_or new k d ≡ slice_index_or old k d

-- ---- bits

-- the bit that comes first where this is fixed
abbrev pub first_bit : Option Bool → Bool
first_bit None = false
first_bit (Some fixed) = fixed

-- from one level up to another each bit is the one that comes first
abbrev pub AreFirst : List (Option Bool) → ℕ → ℕ → Bits → Type 0
AreFirst fixed level end s = (k : ℕ) → level ≤ k → k < end → s k ≡ first_bit (fixed_at fixed k)

-- of the bits with this one at the level, these are the first that agree and make the function true
pub record IsFirstWith (fixed : List (Option Bool)) (f : Function) (level count : ℕ) (bit : Bool) (s : Bits) : Type 0 where
  pub here : s level ≡ bit
  pub agrees : Agrees fixed level s
  pub true_there : f s ≡ true
  pub first : (t : Bits) → t level ≡ bit → Agrees fixed level t → f t ≡ true → NotAfter count (level + 1) s t

-- no bits with this one at the level agree and make the function true
abbrev pub HasNoneWith : List (Option Bool) → Function → ℕ → Bool → Type 0
HasNoneWith fixed f level bit = (t : Bits) → t level ≡ bit → Agrees fixed level t → f t ≡ true → ⊥
