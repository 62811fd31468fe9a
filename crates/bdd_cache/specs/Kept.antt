-- What a table of answers holds.
use Rattle.std.specs.Prelude.{◌≡◌, ℕ, ◌<◌, ◌⊎◌, Bool, true, Some, List, length, Contains, slice_get, slice_index_or}
use Rattle.bdd_cache.specs.declared.answer.Answer.{Answer}
use Rattle.bdd_cache.specs.declared.cell.Cell.{Cell}
use Rattle.bdd_cache.specs.declared.cell.TheConstants.{EMPTY}
use Rattle.bdd_cache.specs.Cells.{answer_in}

-- an answer of an operation, which has a number from 1 on, is among those of a table
abbrev pub IsKept : List Answer → Answer → Type 0
IsKept answers answer = (0 < answer.op) × Contains answers answer

-- the node has a flag, and it is true
abbrev pub IsLive : List Bool → ℕ → Type 0
IsLive live node = slice_get live node ≡ Some true

-- each node that the answer speaks of is live
pub record HasLiveNodes (live : List Bool) (answer : Answer) : Type 0 where
  pub a : IsLive live answer.a
  pub b : IsLive live answer.b
  pub c : IsLive live answer.c
  pub r : IsLive live answer.r

-- what a sweep makes of an answer: it stays if its nodes are live, and is nothing if they aren't
abbrev pub IsSwept : List Bool → Answer → Answer → Type 0
IsSwept live old new = (HasLiveNodes live old × (new ≡ old)) ⊎ ((HasLiveNodes live old → ⊥) × (new.op ≡ 0))

-- each cell is swept
abbrev pub AllSwept : List Bool → List Cell → List Cell → Cell → Type 0
AllSwept live old new empty = (k : ℕ) → k < length old → IsSwept live (answer_in (slice_index_or old k empty)) (answer_in (slice_index_or new k empty))

-- no cell has an answer
abbrev pub AreEmpty : List Cell → Type 0
AreEmpty cells = (k : ℕ) → (answer_in (slice_index_or cells k EMPTY)).op ≡ 0
