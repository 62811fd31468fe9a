-- What a store keeps true, and what counts and marks of roots are. No public clause cites this file.
use Rattle.std.specs.Prelude.{◌≡◌, ◌==◌, ◌+◌, ◌<◌, ◌≤◌, ◌^◌, ◌⊎◌, ℕ, false, List, length, sum, slice_index, if◌then◌else◌}
use Rattle.std.specs.List.{Contains}
use Rattle.spec_model.specs.Diagrams.{IsPartOf}
use Rattle.node_table.specs.Table.{Table, IsLive, IsMarked, is_marked, IsSound, diagram_at}
use Rattle.bdd_cache.specs.declared.answer.Answer.{Answer}
use Rattle.bdd_store.specs.State.{State, IsEdge, IsRoot, HasAnswer, IsOfLiveNodes, IsHeldBy, diagram_of}

-- one more is counted at the place
abbrev pub AddsOne : List ℕ → List ℕ → ℕ → Type 0
AddsOne old new n = (k : ℕ) → slice_index new k ≡ slice_index old k + (if k == n then 1 else 0)

abbrev pub SameCounts : List ℕ → List ℕ → Type 0
SameCounts old new = (k : ℕ) → slice_index new k ≡ slice_index old k

-- roots, the stack and answers are of live nodes, and nothing is marked
pub record IsWhole (s : State) (roots : ℕ) : Type 0 where
  pub sound : IsSound s.table
  pub unmarked : (n : ℕ) → is_marked s.table n ≡ false
  pub roots_live : (n : ℕ) → IsRoot s n → IsEdge s n
  pub stack_live : (n : ℕ) → Contains s.stack n → IsEdge s n
  pub answers_live : (a : Answer) → HasAnswer s a → IsEdge s a.a × IsEdge s a.b × IsEdge s a.c × IsEdge s a.r
  pub counted : roots ≡ sum s.kept
  pub small : length s.kept ≤ 2 ^ 32

-- the node's diagram is a part of that of a start
abbrev pub IsBelowStart : Table → (ℕ → Type 0) → ℕ → Type 0
IsBelowStart t Start n = (r : ℕ) × Start r × IsPartOf (diagram_at t n) (diagram_at t r)

-- what the starts reach is marked, and nothing else that wasn't
pub record MarksAll (old new : Table) (Start : ℕ → Type 0) : Type 0 where
  pub same : new ≡ record old { marked = new.marked }
  pub kept : (n : ℕ) → IsMarked old n → IsMarked new n
  pub reached : (n : ℕ) → IsLive old n → IsBelowStart old Start n → IsMarked new n
  pub only : (n : ℕ) → IsMarked new n → IsMarked old n ⊎ IsBelowStart old Start n

-- exactly what kept roots and these nodes hold stays, with what it stood for, and so do the answers about it
pub record MakesRoom (old new : State) (starts : List ℕ) : Type 0 where
  pub levels : new.table.levels ≡ old.table.levels
  pub budget : new.table.budget ≡ old.table.budget
  pub stays : (n : ℕ) → IsHeldBy old starts n → IsEdge new n
  pub stayed : (n : ℕ) → IsEdge new n → IsHeldBy old starts n
  pub meaning : (n : ℕ) → IsEdge new n → diagram_of new n ≡ diagram_of old n
  pub roots : new.kept ≡ old.kept
  pub stack : new.stack ≡ old.stack
  pub answers : (a : Answer) → HasAnswer new a → HasAnswer old a
  pub answers_stay : (a : Answer) → HasAnswer old a → IsOfLiveNodes new a → HasAnswer new a
