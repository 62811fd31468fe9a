-- The copy of a diagram while it is made. No public clause cites this.
use Rattle.std.specs.Prelude.{◌≡◌, ◌+◌, ◌++◌, ◌*◌, ℕ, List, [], ◌∷◌, Option, Some, None, MatchOption, Result, Err, IfOk}
use Rattle.std.specs.List.{AllByRecursion}
use Rattle.spec_model.specs.Diagrams.{Diagram, value, shifted, IsReduced}
use Rattle.node_table.specs.Table.{Table, diagram_at}
use Rattle.bdd_store.specs.declared.fault.StoreFault.{StoreFault}
use Rattle.bdd_store.specs.declared.fault.StoreFault.TheVariants as fault
use Rattle.bdd_store.specs.State.{State, roots_at, SameRoots}
use Rattle.bdd_ops.specs.Contents.{Contents, function_at}
use Rattle.bdd_ops.specs.Calls.{KeepsRoots}
use Rattle.bdd_reorder.specs.declared.memo.Copied.{Copied}
use Rattle.bdd_reorder.specs.declared.frames.Frame.{Frame}
use Rattle.bdd_reorder.specs.declared.frames.Turn.{Turn}
use Rattle.bdd_reorder.specs.declared.frames.Turn.TheVariants.{Asks, Answer}
use Rattle.bdd_reorder.specs.Keeping.{one_at, made_at, KeepsBesides}
use Rattle.bdd_reorder.specs.Crowding.{IsCrowdedSince}
use Rattle.bdd_reorder.specs.Rearranged.{NoFunction, IsPartRearranged, IsBit, IsOfPart}
use Rattle.bdd_reorder.specs.Making.{MakesOne, branched}
use Rattle.bdd_reorder.specs.Copying.{copies_at, IsRight, size_of}
use Rattle.bdd_reorder.specs.Frames.{both_at, splits_at, lows_at, waited_by, awaited, AreChained, IsSplitInto, IsFrame, turns_of, all_turns}

-- what is copied, and what was there when its copy began
pub record Origin : Type 0 where
  pub from : Contents
  pub to : Contents
  pub levels : List ℕ
  pub whole : Diagram
  pub copies : List Copied

abbrev pub origin : Contents → Contents → List ℕ → ℕ → List Copied → Origin
origin from to levels a copies = record { from = from; to = to; levels = levels; whole = diagram_at from.state.table a; copies = copies }

-- how often the answer is the root
abbrev pub answer_at : ℕ → Option (Result ℕ StoreFault) → ℕ
answer_at n None = 0
answer_at n (Some r) = made_at n r

-- The last frame waits for a copy of its part, or with no frame the whole's copy is waited for. An answer is that copy, or why
-- there is none.
pub record IsCopying (o : Origin) (from to : Contents) (copies : List Copied) (frames : List Frame) (answer : Option (Result ℕ StoreFault)) : Type 0 where
  pub table : from.state.table ≡ o.from.state.table
  pub splits : (n : ℕ) → roots_at from.state n ≡ roots_at o.from.state n + splits_at n frames
  pub more : List Copied
  pub copies_are : copies ≡ o.copies ++ more
  pub right : AllByRecursion (IsRight o.from.state.table to o.levels) more
  pub frames_right : AllByRecursion (IsFrame o.from.state.table to o.levels o.whole) frames
  pub chained : AreChained o.from.state.table o.whole frames
  pub besides : KeepsBesides o.to to (IsPartRearranged o.levels o.whole) (λ n. (copies_at n more + lows_at n frames) + answer_at n answer)
  pub meaning : MatchOption answer (Unit {0}) (λ r. IfOk r (λ root. function_at to root ≡ shifted o.levels (value (awaited o.from.state.table o.whole frames))))
  pub full : answer ≡ Some (Err fault.Full) → IsReduced o.whole × ((level : ℕ) × IsCrowdedSince o.to.state to.state.table (IsOfPart o.levels o.whole level))

-- ---- turns

abbrev pub answer_of : Turn → Option (Result ℕ StoreFault)
answer_of (Asks f) = None
answer_of (Answer r) = Some r

-- the frames, with the one that asks
abbrev pub frames_with : List Frame → Turn → List Frame
frames_with fs (Asks f) = fs ++ f ∷ []
frames_with fs (Answer r) = fs

abbrev pub IsTurn : Origin → Contents → Contents → List Copied → List Frame → Turn → Type 0
IsTurn o from to copies frames turn = IsCopying o from to copies (frames_with frames turn) (answer_of turn)

-- how many turns are left in this one
abbrev pub own_turns : Table → Turn → ℕ
own_turns t (Asks f) = (1 + 4 * size_of (diagram_at t (waited_by f))) + turns_of t f
own_turns t (Answer r) = 0

abbrev pub turns_left : Table → List Frame → Turn → ℕ
turns_left t frames turn = all_turns t frames + own_turns t turn

-- ---- what the steps give

-- a new frame of the part
pub record Opens (from new : State) (a : ℕ) (f : Frame) : Type 0 where
  pub number : f.number ≡ a
  pub fresh : f.low_copy ≡ None
  pub split : IsSplitInto from.table a f.split
  pub added : (n : ℕ) → roots_at new n ≡ roots_at from n + both_at n f.split

-- the copy of the part, or want of memory
pub record Gives (from from' to to' : Contents) (levels : List ℕ) (a : ℕ) (r : Result ℕ StoreFault) : Type 0 where
  pub made : MakesOne to to' r (shifted levels (value (diagram_at from.state.table a))) NoFunction
  pub memory : r ≡ Err fault.Full → ⊥
  pub roots : SameRoots from.state from'.state

abbrev pub Replies : Contents → Contents → Contents → Contents → List ℕ → ℕ → Turn → Type 0
Replies from from' to to' levels a (Asks f) = (to' ≡ to) × Opens from.state from'.state a f
Replies from from' to to' levels a (Answer r) = Gives from from' to to' levels a r

-- two roots are given back, and a branch of their functions is made of them, if it isn't refused
pub record Joins (old new : Contents) (level low high : ℕ) (r : Result ℕ StoreFault) : Type 0 where
  pub meaning : IfOk r (λ root. function_at new root ≡ branched level (function_at old low) (function_at old high))
  pub keeps : KeepsRoots old new
  pub counted : (n : ℕ) → roots_at new.state n + (one_at n low + one_at n high) ≡ roots_at old.state n + made_at n r
  pub full : r ≡ Err fault.Full → IsCrowdedSince old.state new.state.table (IsBit level)
