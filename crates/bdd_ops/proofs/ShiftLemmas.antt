-- The step of a shift.
use Rattle.std.proofs.Common.{◌≡◌, ◌≢◌, ℕ, ◌<◌, ◌≤◌, inl, sym, ◌∙◌, ap, subst, refl, arith, List, [], length, slice_index_or}
use Rattle.spec_model.specs.Diagrams.{Diagram, constant, branch, Function, with_bit, value, shifted, IsReduced, IsWithin, IsPartOf}
use Rattle.spec_model.specs.DiagramReads.{Reads}
use Rattle.bdd_store.specs.declared.edge.Edge.{Edge}
use Rattle.bdd_store.specs.State.{IsEdge, IsHeldBy, diagram_of}
use Rattle.bdd_ops.specs.Functions.{split}
use Rattle.bdd_ops.specs.Reading.{IgnoresTo}
use Rattle.bdd_ops.specs.Contents.{Contents, function_at, list_at}
use Rattle.bdd_ops.specs.Steps.{Works, SameNodes, HasFunction, IsSplit, IsShiftedPart, IsShift, level_of, level_at}
use Rattle.bdd_ops.specs.Calls.{RisesOver}
use Rattle.bdd_ops.proofs.DiagramLemmas.{part_of_itself, part_of_part, reads_part, reads_depends, reads_within, value_read}
use Rattle.bdd_ops.proofs.FunctionLemmas.{with_bit-other}
use Rattle.bdd_ops.specs.Questions.{AreHalves, IsMovable, SplitsMoved, MayMove, moving}
use Rattle.bdd_ops.proofs.StayLemmas.{Stays, carried, level_stays, function_stays, held_there, held_part, same_there, split_held, answer_there}
use Rattle.bdd_ops.proofs.QuestionLemmas.{HasParts, IsOfParts, IsClosed, Carries}

abbrev pub shifted_at : Contents → ℕ → ℕ → Function
shifted_at c list a = shifted (list_at c list) (function_at c a)

-- a list that rises over the levels that the function depends on rises over those that stand in its diagram
pub shift_of_rising : (levels : ℕ) (to : List ℕ) (d : Diagram) → IsReduced d → IsWithin levels d → RisesOver levels to (value d) → IsShift levels to d
shift_of_rising levels to d reduced within rises = record {
  known = λ x reads. rises.known x (reads_within d levels x within reads) (reads_depends d x reduced reads);
  below = λ x reads. rises.below x (reads_within d levels x within reads) (reads_depends d x reduced reads);
  rising = λ x y reads_x reads_y before. rises.rising x y before (reads_within d levels y within reads_y) (reads_depends d x reduced reads_x) (reads_depends d y reduced reads_y);
}

-- what may be shifted may be shifted in parts
pub shift_part : (levels : ℕ) (to : List ℕ) (part d : Diagram) → IsPartOf part d → IsShift levels to d → IsShift levels to part
shift_part levels to part d within is = record {
  known = λ x reads. is.known x (reads_part part d x within reads);
  below = λ x reads. is.below x (reads_part part d x within reads);
  rising = λ x y reads_x reads_y before. is.rising x y (reads_part part d x within reads_x) (reads_part part d y within reads_y) before;
}

-- a node that is no constant reads its level
pub reads_own : (levels : ℕ) (d : Diagram) → level_of levels d < levels → Reads (level_of levels d) d
reads_own levels (constant b) before = omega arith
reads_own levels (branch own low high) before = inl refl

apart_from : (m target other : ℕ) → m ≤ target → target < other → other ≢ m
apart_from m target other le before = omega arith

-- a shifted part reads no level up to the shifted level
pub shifted_ignores : (to : List ℕ) (level target : ℕ) (d : Diagram) → ((x : ℕ) → Reads x d → target < slice_index_or to x x) → IgnoresTo target (shifted to (value d))
shifted_ignores to level target d after m le s b =
    value_read d (λ x. with_bit s m b (slice_index_or to x x)) (λ x. s (slice_index_or to x x)) (λ x reads. with_bit-other s m (slice_index_or to x x) b (apart_from m target (slice_index_or to x x) le (after x reads)))

pub shifted_more : (to : List ℕ) (part a d : Diagram) → IsPartOf part a → IsShiftedPart to part d → IsShiftedPart to a d
shifted_more to part a d within made = record { x = made.x; x_part = part_of_part made.x part a made.x_part within; is_shifted = made.is_shifted }

shifted_same : (old new : Contents) (list a : ℕ) → new.lists ≡ old.lists → Stays old new a → shifted_at new list a ≡ shifted_at old list a
shifted_same old new list a lists stays =
    ap (λ (l : List (List ℕ)). shifted (slice_index_or l list []) (function_at new a)) lists ∙ ap (shifted (list_at old list)) (carried old new a stays)

pub shifted_before : (first now : Contents) (base : List ℕ) (list a n : ℕ) → Works first now base → IsHeldBy first.state base a → HasFunction now (shifted_at now list a) n → HasFunction now (shifted_at first list a) n
shifted_before first now base list a n works held has = subst (λ (f : Function). HasFunction now f n) (shifted_same first now list a works.lists (held_there first now base a works held)) has

pub shifted_now : (old new : Contents) (starts : List ℕ) (list a n : ℕ) → Works old new starts → IsHeldBy old.state starts a → HasFunction new (shifted_at old list a) n → HasFunction new (shifted_at new list a) n
shifted_now old new starts list a n works held has = subst (λ (f : Function). HasFunction new f n) (sym (shifted_same old new list a works.lists (held_there old new starts a works held))) has

-- the answer, where the nodes stay
pub shifted_remembered : (mid new : Contents) (list a n : ℕ) → SameNodes mid new → IsEdge mid.state a → HasFunction mid (shifted_at mid list a) n → HasFunction new (shifted_at new list a) n
shifted_remembered mid new list a n same live has =
    subst (λ (f : Function). HasFunction new f n) (sym (shifted_same mid new list a same.lists (same_there mid new a same live))) (function_stays mid new _ n (same_there mid new n same has.live) has)

-- ---- the operation

part_movable : (c : Contents) (list : ℕ) (whole part : Edge) → IsMovable c list whole → IsEdge c.state part.0 → IsPartOf (diagram_of c.state part.0) (diagram_of c.state whole.0) → IsMovable c list part
part_movable c list whole part is live within = record { known = is.known; live = live; rises = shift_part c.state.table.levels (list_at c list) (diagram_of c.state part.0) (diagram_of c.state whole.0) within is.rises }

pub moving_has_parts : (list : ℕ) (c : Contents) → HasParts (moving list c)
moving_has_parts list c = record {
  low_live = λ level asked low high is. part_movable c list asked low is.movable is.is_split.low_live is.is_split.low_part;
  high_live = λ level asked low high is. part_movable c list asked high is.movable is.is_split.high_live is.is_split.high_part;
  low_after = λ level asked low high is. is.is_split.low_after;
  high_after = λ level asked low high is. is.is_split.high_after;
}

pub moving_parts : (list : ℕ) (c : Contents) → IsOfParts (moving list c) (λ q a. IsPartOf (diagram_of c.state q.0) (diagram_of c.state a.0))
moving_parts list c = record {
  itself = λ q. part_of_itself (diagram_of c.state q.0);
  on = λ x y z first second. part_of_part (diagram_of c.state x.0) (diagram_of c.state y.0) (diagram_of c.state z.0) first second;
  low = λ level asked low high is. is.is_split.low_part;
  high = λ level asked low high is. is.is_split.high_part;
}

pub moving_closed : (list : ℕ) (c : Contents) (starts : List ℕ) → IsClosed (moving list c) (λ a. IsHeldBy c.state starts a.0)
moving_closed list c starts = record {
  low = λ level asked low high held is. held_part c.state starts asked.0 low.0 held is.is_split.low_live is.is_split.low_part;
  high = λ level asked low high held is. held_part c.state starts asked.0 high.0 held is.is_split.high_live is.is_split.high_part;
}

-- ---- what stays

pub movable_stays : (old new : Contents) (starts : List ℕ) (list : ℕ) (asked : Edge) → Works old new starts → IsHeldBy old.state starts asked.0 → IsMovable old list asked → IsMovable new list asked
movable_stays old new starts list asked works held is =
    let stays = held_there old new starts asked.0 works held in
    let of_lists : IsShift old.state.table.levels (list_at new list) (diagram_of old.state asked.0) = subst (λ (l : List (List ℕ)). IsShift old.state.table.levels (slice_index_or l list []) (diagram_of old.state asked.0)) (sym works.lists) is.rises in
    let of_levels : IsShift new.state.table.levels (list_at new list) (diagram_of old.state asked.0) = subst (λ (n : ℕ). IsShift n (list_at new list) (diagram_of old.state asked.0)) (sym works.keeps.levels) of_lists in
    record {
      known = subst (λ (l : List (List ℕ)). list < length l) (sym works.lists) is.known;
      live = stays.0;
      rises = subst (λ (d : Diagram). IsShift new.state.table.levels (list_at new list) d) (sym stays.1) of_levels;
    }

pub moving_carries : (list : ℕ) (old new : Contents) (starts : List ℕ) → Works old new starts → Carries (moving list old) (moving list new) (λ a. IsHeldBy old.state starts a.0) starts
moving_carries list old new starts works = record {
  closed = moving_closed list old starts;
  parts_after = moving_has_parts list new;
  levels = works.keeps.levels;
  first = λ q held. level_stays old new q.0 works.keeps.levels (held_there old new starts q.0 works held);
  live = λ q held live. movable_stays old new starts list q works held live;
  splits = λ level asked low high held is. record {
    movable = movable_stays old new starts list asked works held is.movable;
    is_split = split_held old new starts level asked.0 low.0 high.0 works held is.is_split;
  };
  answers = λ q n held there has. shifted_now old new starts list q.0 n works held (function_stays old new _ n (answer_there old new starts n works there has.live) has);
}

-- ---- what may be made

may_move_before : (first now : Contents) (base : List ℕ) (list a : ℕ) (d : Diagram) → Works first now base → IsHeldBy first.state base a → MayMove now list a d → MayMove first list a d
may_move_before first now base list a d works held made = rw (← works.lists, ← (held_there first now base a works held).1) made

-- a part's answer
pub shifted_result : (first now : Contents) (base : List ℕ) (list : ℕ) (whole q : Edge) (n : ℕ) → Works first now base → IsHeldBy first.state base whole.0 → IsPartOf (diagram_of now.state q.0) (diagram_of now.state whole.0) → HasFunction now (shifted_at now list q.0) n → IsEdge now.state n × MayMove first list whole.0 (diagram_of now.state n)
shifted_result first now base list whole q n works held within has = (has.live, may_move_before first now base list whole.0 (diagram_of now.state n) works held (record { x = diagram_of now.state q.0; x_part = within; is_shifted = has.function }))

-- what a part's question may make
pub shifted_wider : (first now : Contents) (base : List ℕ) (list : ℕ) (whole q : Edge) → Works first now base → IsHeldBy first.state base whole.0 → IsPartOf (diagram_of now.state q.0) (diagram_of now.state whole.0) → (d : Diagram) → MayMove now list q.0 d → MayMove first list whole.0 d
shifted_wider first now base list whole q works held within d made =
    may_move_before first now base list whole.0 d works held (shifted_more (list_at now list) (diagram_of now.state q.0) (diagram_of now.state whole.0) d within made)

-- ---- the answers of parts

module _ (c : Contents) (list level target : ℕ) (asked : Edge) (low high : ℕ) (has : AreHalves (moving list c) level asked low high) where
  abbrev p : Edge
  p = has.awaits.low_part

  abbrev q : Edge
  q = has.high_part

  splits : SplitsMoved c list level asked p q
  splits = has.awaits.parts.splits

  inner : level_at c asked.0 < c.state.table.levels
  inner = subst (λ (n : ℕ). n < c.state.table.levels) has.awaits.parts.is_first has.awaits.parts.below

  own_read : Reads level (diagram_of c.state asked.0)
  own_read = rw has.awaits.parts.is_first (reads_own c.state.table.levels (diagram_of c.state asked.0) inner)

  -- the list gives the level one
  pub target_known : level < length (list_at c list)
  target_known = splits.movable.rises.known level own_read

  module _ (is_target : target ≡ slice_index_or (list_at c list) level level) where
    -- and one of the store's
    pub target_below : target < c.state.table.levels
    target_below = subst (λ (n : ℕ). n < c.state.table.levels) (sym is_target) (splits.movable.rises.below level own_read)

    -- they read no level up to the moved one
    pub moved_low_ignores : IgnoresTo target (function_at c low)
    moved_low_ignores = subst (λ (f : Function). IgnoresTo target f) (sym has.awaits.low_is.function) (shifted_ignores (list_at c list) level target (diagram_of c.state p.0) (λ x reads.
        rw is_target (splits.movable.rises.rising level x own_read (reads_part (diagram_of c.state p.0) (diagram_of c.state asked.0) x splits.is_split.low_part reads) (splits.is_split.low_reads x reads))))

    pub moved_high_ignores : IgnoresTo target (function_at c high)
    moved_high_ignores = subst (λ (f : Function). IgnoresTo target f) (sym has.high_is.function) (shifted_ignores (list_at c list) level target (diagram_of c.state q.0) (λ x reads.
        rw is_target (splits.movable.rises.rising level x own_read (reads_part (diagram_of c.state q.0) (diagram_of c.state asked.0) x splits.is_split.high_part reads) (splits.is_split.high_reads x reads))))

    -- what is split into them at the moved level is the answer
    moved_whole : (r : Function) → r ≡ split target (function_at c low) (function_at c high) → r ≡ shifted_at c list asked.0
    moved_whole r is = rw (is, has.awaits.low_is.function, has.high_is.function, is_target, splits.is_split.function) refl

    pub moved_given : (new : Contents) (starts : List ℕ) (n : ℕ) → Works c new starts → IsHeldBy c.state starts asked.0 → IsSplit new target (function_at c low) (function_at c high) n → HasFunction new (shifted_at new list asked.0) n
    moved_given new starts n works held is = shifted_now c new starts list asked.0 n works held (record { live = is.live; function = moved_whole (function_at new n) is.function })

  -- both may be made
  pub moved_low_may : MayMove c list asked.0 (diagram_of c.state low)
  moved_low_may = record { x = diagram_of c.state p.0; x_part = splits.is_split.low_part; is_shifted = has.awaits.low_is.function }

  pub moved_high_may : MayMove c list asked.0 (diagram_of c.state high)
  moved_high_may = record { x = diagram_of c.state q.0; x_part = splits.is_split.high_part; is_shifted = has.high_is.function }
