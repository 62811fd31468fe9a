-- What functions on frames owe, in plain variables.
use Rattle.std.proofs.Common.{◌≡◌, ℕ, ◌+◌, ◌*◌, ◌<◌, ◌≤◌, sym, ◌∙◌, ap, subst, arith, Option, Some, None, Result, Ok, Err, IfOk, OnErr, List, [], ◌∷◌, ◌++◌, slice_index_or}
use Rattle.spec_model.specs.Diagrams.{Diagram, Function}
use Rattle.node_table.specs.Table.{Table, diagram_at}
use Rattle.bdd_store.specs.declared.fault.StoreFault.{StoreFault}
use Rattle.bdd_store.specs.declared.fault.StoreFault.TheVariants as fault
use Rattle.bdd_store.specs.State.{roots_at, AddsRoot}
use Rattle.bdd_ops.specs.Contents.{Contents}
use Rattle.bdd_ops.specs.Calls.{GivesRoot, KeepsRoots}
use Rattle.bdd_reorder.specs.declared.memo.Copied.{Copied}
use Rattle.bdd_reorder.specs.declared.frames.Frame.{Frame}
use Rattle.bdd_reorder.specs.declared.frames.Turn.{Turn}
use Rattle.bdd_reorder.specs.declared.frames.Turn.TheVariants.{Asks, Answer}
use Rattle.bdd_reorder.specs.Keeping.{made_at}
use Rattle.bdd_reorder.specs.Rearranged.{NoFunction}
use Rattle.bdd_reorder.specs.Making.{MakesOne}
use Rattle.bdd_reorder.specs.Copying.{size_of}
use Rattle.bdd_reorder.specs.Frames.{both_at, waited_of, waited_by, awaited, turns_after, turns_of, all_turns}
use Rattle.bdd_reorder.specs.Turns.{Origin, IsCopying, IsTurn, Replies, Joins, own_turns, turns_left}
use Rattle.bdd_reorder.proofs.PartLemmas.{ok_as, given_added}
use Rattle.bdd_reorder.proofs.FrameLemmas.{awaited-push, all_turns-push, chained-pop}
use Rattle.bdd_reorder.proofs.TurnLemmas.{joined, remembered, replied}

-- one operation that never finds no room
pub given_one : (old new : Contents) (r : Result ℕ StoreFault) (f g : Function) (MayMake : Diagram → Type 0) → f ≡ g → GivesRoot old new r f MayMake → (r ≡ Err fault.Full → ⊥) → MakesOne old new r g NoFunction
given_one old new r f g MayMake same gives never = record {
  meaning = ok_as new r f g same gives.meaning;
  keeps = gives.keeps;
  added = given_added old new r f MayMake gives;
  full = λ e. absurd (never e);
}

-- the frame that asked waits, and what it asked for is opened or given
pub asked : (o : Origin) (from from' to to' : Contents) (copies : List Copied) (fs gs : List Frame) (f : Frame) (a : ℕ) (turn : Turn) → IsCopying o from to copies (fs ++ f ∷ []) None → a ≡ waited_by f → from'.state.table ≡ from.state.table → Replies from from' to to' o.levels a turn → gs ≡ fs ++ f ∷ [] →
    IsTurn o from' to' copies gs turn
asked o from from' to to' copies fs gs f a turn c is table reply gs_are =
    let t = o.from.state.table in
    let asks : diagram_at from.state.table a ≡ awaited t o.whole (fs ++ f ∷ []) = ap (λ (x : Table). diagram_at x a) c.table ∙ (ap (diagram_at t) is ∙ sym (awaited-push t o.whole fs f)) in
    subst (λ (hs : List Frame). IsTurn o from' to' copies hs turn) (sym gs_are) (replied o from from' to to' copies (fs ++ f ∷ []) a c asks table turn reply)

-- ---- fewer turns are left

reply_turns : (from from' to to' : Contents) (levels : List ℕ) (a : ℕ) (turn : Turn) → Replies from from' to to' levels a turn → own_turns from.state.table turn ≤ 4 * size_of (diagram_at from.state.table a)
reply_turns from from' to to' levels a (Asks f) reply =
    let t = from.state.table in
    let size : size_of (diagram_at t a) ≡ 1 + (size_of (diagram_at t f.split.low) + size_of (diagram_at t f.split.high)) = ap size_of reply.1.split.diagram in
    let waited : size_of (diagram_at t (waited_by f)) ≡ size_of (diagram_at t f.split.low) = ap (λ (k : Option ℕ). size_of (diagram_at t (waited_of f.split k))) reply.1.fresh in
    let after : turns_of t f ≡ 3 + 4 * size_of (diagram_at t f.split.high) = ap (turns_after (diagram_at t f.split.high)) reply.1.fresh in
    omega (arith, size, waited, after)
reply_turns from from' to to' levels a (Answer r) reply = omega arith

pub asked_fewer : (from from' to to' : Contents) (levels : List ℕ) (fs gs : List Frame) (f : Frame) (a : ℕ) (turn : Turn) → a ≡ waited_by f → Replies from from' to to' levels a turn → gs ≡ fs ++ f ∷ [] → turns_left from.state.table gs turn < turns_left from.state.table fs (Asks f)
asked_fewer from from' to to' levels fs gs f a turn is reply gs_are =
    let t = from.state.table in
    let own = reply_turns from from' to to' levels a turn reply in
    let size = ap (λ (n : ℕ). size_of (diagram_at t n)) is in
    let frames = ap (all_turns t) gs_are in
    let push = all_turns-push t fs f in
    omega (arith, own, size, frames, push)

-- ---- two copies

-- the last frame has both copies: the third that is made of them is remembered
pub handed : (o : Origin) (levels : List ℕ) (from from' to to' to'' : Contents) (copies copies' : List Copied) (fs : List Frame) (f : Frame) (low high l : ℕ) (made r : Result ℕ StoreFault) → o.levels ≡ levels → IsCopying o from to copies (fs ++ f ∷ []) (Some (Ok high)) → f.low_copy ≡ Some low →
    l ≡ slice_index_or levels f.split.level f.split.level → Joins to to' l low high made → from'.state.table ≡ from.state.table → ((n : ℕ) → roots_at from.state n ≡ roots_at from'.state n + both_at n f.split) → KeepsRoots to' to'' → IfOk r (λ root. made ≡ Ok root) →
    IfOk r (λ root. copies' ≡ copies ++ record { number = f.number; root = root } ∷ []) → IfOk r (λ root. AddsRoot to'.state to''.state root) → OnErr r ((copies' ≡ copies) × ((n : ℕ) → roots_at to'.state n ≡ roots_at to''.state n + made_at n made)) →
    (r ≡ Err fault.Full → (made ≡ Err fault.Full) × (to''.state.table ≡ to'.state.table)) → IsCopying o from' to'' copies' fs (Some r)
handed o levels from from' to to' to'' copies copies' fs f low high l made r same_levels c low_is is_level joins table back keeps same noted added refused full =
    let level : l ≡ slice_index_or o.levels f.split.level f.split.level = subst (λ (ls : List ℕ). l ≡ slice_index_or ls f.split.level f.split.level) (sym same_levels) is_level in
    let both = joined o from to to' copies fs f low high l made c low_is level joins from' table back in
    remembered o from' to' to'' copies copies' fs made both keeps f.number r (chained-pop o.from.state.table o.whole fs f c.chained).1 same noted added refused full

pub handed_fewer : (t : Table) (frames rest : List Frame) (f : Frame) (turn next : Turn) → frames ≡ rest ++ f ∷ [] → own_turns t next < turns_of t f → turns_left t rest next < turns_left t frames turn
handed_fewer t frames rest f turn next are less = let same = ap (all_turns t) are in let push = all_turns-push t rest f in omega (arith, same, push, less)
