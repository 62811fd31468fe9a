-- What steps keep.
use Rattle.std.proofs.Common.{◌≡◌, ℕ, ◌<◌, ◌≤◌, ◌⊎◌, inl, inr, sym, ◌∙◌, ap, subst, refl, arith, Bool, true, false, List, ◌+◌, ◌*◌, [], ◌∷◌, ◌++◌, map, if◌then◌else◌, length, slice_index_or, Result, Ok, Err, IfOk, Option, Some, None, IfSome}
use Rattle.spec_model.specs.Diagrams.{Diagram, constant, branch, Bits, Function, value, ite, shifted, IsLater, IsPartOf}
use Rattle.bdd_cache.specs.declared.answer.Answer.{Answer}
use Rattle.bdd_store.specs.declared.edge.Edge.{Edge}
use Rattle.bdd_store.specs.declared.fault.StoreFault.{StoreFault}
use Rattle.node_table.specs.Table.{diagram_at}
use Rattle.bdd_store.specs.State.{State, IsStore, IsEdge, HasAnswer, diagram_of, KeepsAnswers, HasParts, IsNewStore}
use Rattle.bdd_ops.specs.Functions.{split, joined, joined_over, join_of}
use Rattle.bdd_ops.specs.Reading.{Ignores, IgnoresTo}
use Rattle.bdd_ops.specs.Contents.{Contents, IsAnswer, IsRight, AreRight, function_at, list_at, over_op}
use Rattle.bdd_ops.specs.Steps.{IsChoiceOfParts, IsSplitAt, level_of, level_at, IsSplit, HasFunction}
use Rattle.std.proofs.lemmas.List.{length-append, map-append}
use Rattle.bdd_ops.specs.declared.level_list.LevelList.{LevelList}
use Rattle.bdd_ops.proofs.ListLemmas.{before_end}
use Rattle.bdd_ops.proofs.DiagramLemmas.{part_of_part, part_of_itself, later_ignores, reads_later, later_from_ignored}
use Rattle.bdd_ops.proofs.FunctionLemmas.{ite-split, split-same}

-- an answer stays right where its nodes keep their functions
pub right_of : (old new : Contents) (x : Answer) → new.lists ≡ old.lists → ((n : ℕ) → IsEdge old.state n → function_at new n ≡ function_at old n) → IsStore old.state → HasAnswer old.state x → IsRight old x → IsRight new x
right_of old new x lists same store has right =
    let live = store.answers_live x has in
    rw (lists, same x.a live.0, same x.b live.1, same x.c live.2, same x.r live.3) right

-- answers stay right where each that stays is about nodes that stand for what they stood for
pub right_kept : (old new : Contents) → AreRight old → KeepsAnswers old.state new.state → new.lists ≡ old.lists → IsStore new.state → AreRight new
right_kept old new are keeps lists store = record {
  store = store;
  right = λ x has.
      let was = keeps x has in
      rw (lists, ap value was.1.a.1, ap value was.1.b.1, ap value was.1.c.1, ap value was.1.r.1) (are.right x was.0);
}

-- a choice between parts' parts is one between parts
pub choice_of_parts : (a b c x y z d : Diagram) → IsPartOf x a → IsPartOf y b → IsPartOf z c → IsChoiceOfParts x y z d → IsChoiceOfParts a b c d
choice_of_parts a b c x y z d in_a in_b in_c made = record {
  x = made.x;
  y = made.y;
  z = made.z;
  x_part = part_of_part made.x x a made.x_part in_a;
  y_part = part_of_part made.y y b made.y_part in_b;
  z_part = part_of_part made.z z c made.z_part in_c;
  is_choice = made.is_choice;
}

-- choices between the parts make the choice
pub choice_joined : (level : ℕ) (f f0 f1 g g0 g1 h h0 h1 r r0 r1 : Function) → f ≡ split level f0 f1 → g ≡ split level g0 g1 → h ≡ split level h0 h1 → r ≡ split level r0 r1 → r0 ≡ ite f0 g0 h0 → r1 ≡ ite f1 g1 h1 → r ≡ ite f g h
choice_joined level f f0 f1 g g0 g1 h h0 h1 r r0 r1 is_f is_g is_h is_r is_r0 is_r1 =
    rw (is_r, is_r0, is_r1, is_f, is_g, is_h) (sym (ite-split level f0 f1 g0 g1 h0 h1))

-- a choice reads no more than its parts
pub choice_ignores : (level : ℕ) (f g h : Function) → IgnoresTo level f → IgnoresTo level g → IgnoresTo level h → IgnoresTo level (ite f g h)
choice_ignores level f g h of_f of_g of_h m le s b = rw (of_f m le s b, of_g m le s b, of_h m le s b) refl

-- ---- parts at a level

-- a diagram of later levels has a later level, as the constants have
pub after_of : (levels level : ℕ) (d : Diagram) → level < levels → IsLater level d → level < level_of levels d
after_of levels level (constant b) below later = below
after_of levels level (branch own low high) below later = later

later_of : (levels level : ℕ) (d : Diagram) → level < level_of levels d → IsLater level d
later_of levels level (constant b) after = tt
later_of levels level (branch own low high) after = after

-- the parts of a node of the level
pub split_in_parts : (c : Contents) (n level own low high : ℕ) → IsStore c.state → HasParts c.state n own low high → own ≡ level → IsSplitAt c level n low high
split_in_parts c n level own low high store parts same =
    let below : level < c.state.table.levels = rw (← same) parts.below in
    let low_later : IsLater level (diagram_of c.state low) = rw (← same) parts.low_later in
    let high_later : IsLater level (diagram_of c.state high) = rw (← same) parts.high_later in
    record {
      low_live = parts.low_live;
      high_live = parts.high_live;
      low_after = after_of c.state.table.levels level (diagram_of c.state low) below low_later;
      high_after = after_of c.state.table.levels level (diagram_of c.state high) below high_later;
      low_ignores = later_ignores (diagram_of c.state low) level (store.reduced low parts.low_live) low_later;
      high_ignores = later_ignores (diagram_of c.state high) level (store.reduced high parts.high_live) high_later;
      low_reads = λ x reads. reads_later (diagram_of c.state low) level x (store.reduced low parts.low_live) low_later reads;
      high_reads = λ x reads. reads_later (diagram_of c.state high) level x (store.reduced high parts.high_live) high_later reads;
      low_part = rw parts.meaning (inr (inl (part_of_itself (diagram_of c.state low))));
      high_part = rw parts.meaning (inr (inr (part_of_itself (diagram_of c.state high))));
      function = rw (parts.meaning, same) refl;
    }

-- a node of a later level, twice
pub split_in_itself : (c : Contents) (n level : ℕ) → IsStore c.state → IsEdge c.state n → level < level_at c n → IsSplitAt c level n n n
split_in_itself c n level store live after =
    let later : IsLater level (diagram_of c.state n) = later_of c.state.table.levels level (diagram_of c.state n) after in
    record {
      low_live = live;
      high_live = live;
      low_after = after;
      high_after = after;
      low_ignores = later_ignores (diagram_of c.state n) level (store.reduced n live) later;
      high_ignores = later_ignores (diagram_of c.state n) level (store.reduced n live) later;
      low_reads = λ x reads. reads_later (diagram_of c.state n) level x (store.reduced n live) later reads;
      high_reads = λ x reads. reads_later (diagram_of c.state n) level x (store.reduced n live) later reads;
      low_part = part_of_itself (diagram_of c.state n);
      high_part = part_of_itself (diagram_of c.state n);
      function = sym (split-same level (function_at c n));
    }

-- the level of a node is its diagram's
pub level_of_parts : (c : Contents) (n own low high : ℕ) → HasParts c.state n own low high → level_at c n ≡ own
level_of_parts c n own low high parts = rw parts.meaning refl

-- what reads no level up to one is of later levels
pub later_in : (c : Contents) (level n : ℕ) → AreRight c → IsEdge c.state n → IgnoresTo level (function_at c n) → IsLater level (diagram_of c.state n)
later_in c level n are live ignores = later_from_ignored (diagram_of c.state n) level (are.store.reduced n live) ignores

-- ---- a new node

-- the node that the store gives is split at the level
pub split_given : (at now new : Contents) (level low high : ℕ) (r : Result Edge StoreFault) → at ≡ now → IfOk r (λ e. IsEdge new.state e.0) → IfOk r (λ e. (s : Bits) → function_at new e.0 s ≡ split level (function_at at low) (function_at at high) s) →
    IfOk r (λ e. IsSplit new level (function_at now low) (function_at now high) e.0)
split_given at now new level low high (Ok e) same live agree =
    subst (λ (c : Contents). IsSplit new level (function_at c low) (function_at c high) e.0) same (record { live = live; function = λ i s. agree s i })
split_given at now new level low high (Err fault) same live agree = tt

-- ---- answers

over_high : (all : Bool) (i : ℕ) → 1 ≡ over_op all i → ⊥
over_high true i same = omega arith
over_high false i same = omega arith

-- the answer to a choice is right
pub choice_is_right : (lists : List (List ℕ)) (f g h r : Function) → r ≡ ite f g h → IsAnswer lists 1 f g h r
choice_is_right lists f g h r is_choice = record {
  known = omega arith;
  choice = λ same. is_choice;
  over = λ all i same. absurd (over_high all i same);
  both = λ i same. absurd (omega arith);
  moved = λ i same. absurd (omega arith);
}

over_one : (all every : Bool) (i j : ℕ) → over_op all i ≡ over_op every j → (all ≡ every) × (i ≡ j)
over_one true true i j same = (refl, omega arith)
over_one true false i j same = absurd (omega arith)
over_one false true i j same = absurd (omega arith)
over_one false false i j same = (refl, omega arith)

over_known : (all : Bool) (i n : ℕ) → i < n → over_op all i < 8 + 4 * n
over_known true i n below = omega arith
over_known false i n below = omega arith

over_no_choice : (all : Bool) (i : ℕ) → over_op all i ≡ 1 → ⊥
over_no_choice true i same = omega arith
over_no_choice false i same = omega arith

over_not_both : (all : Bool) (i j : ℕ) → over_op all i ≡ 10 + 4 * j → ⊥
over_not_both true i j same = omega arith
over_not_both false i j same = omega arith

over_not_moved : (all : Bool) (i j : ℕ) → over_op all i ≡ 11 + 4 * j → ⊥
over_not_moved true i j same = omega arith
over_not_moved false i j same = omega arith

-- the answer to "all" or "some" is right
pub over_is_right : (lists : List (List ℕ)) (all : Bool) (i op : ℕ) (f g h r : Function) → i < length lists → op ≡ over_op all i → r ≡ joined_over (join_of all) (slice_index_or lists i []) f → IsAnswer lists op f g h r
over_is_right lists all i op f g h r below is_op is_over = rw is_op (record {
  known = over_known all i (length lists) below;
  choice = λ same. absurd (over_no_choice all i same);
  over = λ every j same.
      let one : (all ≡ every) × (i ≡ j) = over_one all every i j same in
      rw (← one.0, ← one.1) is_over;
  both = λ j same. absurd (over_not_both all i j same);
  moved = λ j same. absurd (over_not_moved all i j same);
})

-- what was remembered of "all" or "some" is right
pub over_recalled : (at now : Contents) (all : Bool) (i op a none : ℕ) (r : Option Edge) → at ≡ now → AreRight at → op ≡ over_op all i →
    IfSome r (λ e. HasAnswer at.state (record { op = op; a = a; b = none; c = none; r = e.0 })) → IfSome r (λ e. IsEdge at.state e.0) → IfSome r (λ e. HasFunction now (joined_over (join_of all) (list_at now i) (function_at now a)) e.0)
over_recalled at now all i op a none (Some e) same are is_op has live =
    subst (λ (c : Contents). HasFunction c (joined_over (join_of all) (list_at c i) (function_at c a)) e.0) same (record { live = live; function = (are.right _ has).over all i is_op })
over_recalled at now all i op a none None same are is_op has live = tt

-- where a right answer comes and the nodes stay, answers stay right
pub remembered : (at now new : Contents) (x : Answer) → at ≡ now → AreRight at → new.state.table ≡ at.state.table → new.lists ≡ at.lists → ((y : Answer) → HasAnswer new.state y → (y ≡ x) ⊎ HasAnswer at.state y) → IsRight now x → IsStore new.state → AreRight new
remembered at now new x same are table lists others right store =
    let here : IsRight at x = subst (λ (c : Contents). IsRight c x) (sym same) right in
    record {
      store = store;
      right = λ y has. elim (others y has) [
        | inl is_it ↦ moved y (subst (λ (z : Answer). IsRight at z) (sym is_it) here)
        | inr had ↦ moved y (are.right y had)
      ];
    } where
      functions : (n : ℕ) → function_at new n ≡ function_at at n
      functions n = ap (λ t. value (diagram_at t n)) table

      moved : (y : Answer) → IsRight at y → IsRight new y
      moved y is = rw (lists, functions y.a, functions y.b, functions y.c, functions y.r) is

-- a node reads no level before its own
pub ignored_before : (at now : Contents) (n own low high : ℕ) → at ≡ now → IsStore at.state → IsEdge now.state n → HasParts at.state n own low high → (m : ℕ) → m < own → Ignores m (function_at now n)
ignored_before at now n own low high same store live parts m before =
    let there : IsEdge at.state n = subst (λ (c : Contents). IsEdge c.state n) (sym same) live in
    let later : IsLater m (diagram_of at.state n) = rw parts.meaning before in
    subst (λ (c : Contents). Ignores m (function_at c n)) same (later_ignores (diagram_of at.state n) m (store.reduced n there) later m (omega arith))

no_over : (all : Bool) (i j : ℕ) → 10 + 4 * i ≡ over_op all j → ⊥
no_over true i j same = omega arith
no_over false i j same = omega arith

no_over_moved : (all : Bool) (i j : ℕ) → 11 + 4 * i ≡ over_op all j → ⊥
no_over_moved true i j same = omega arith
no_over_moved false i j same = omega arith

-- the answer to "some make both true" is right
pub both_is_right : (lists : List (List ℕ)) (i : ℕ) (f g h r : Function) → i < length lists → r ≡ joined_over (join_of false) (slice_index_or lists i []) (joined (join_of true) f g) → IsAnswer lists (10 + 4 * i) f g h r
both_is_right lists i f g h r below is_both = record {
  known = omega arith;
  choice = λ same. absurd (omega arith);
  over = λ all j same. absurd (no_over all i j same);
  both = λ j same.
      let one : i ≡ j = omega arith in
      rw (← one) is_both;
  moved = λ j same. absurd (omega arith);
}

-- the answer to a shift is right
pub moved_is_right : (lists : List (List ℕ)) (i : ℕ) (f g h r : Function) → i < length lists → r ≡ shifted (slice_index_or lists i []) f → IsAnswer lists (11 + 4 * i) f g h r
moved_is_right lists i f g h r below is_moved = record {
  known = omega arith;
  choice = λ same. absurd (omega arith);
  over = λ all j same. absurd (no_over_moved all i j same);
  both = λ j same. absurd (omega arith);
  moved = λ j same.
      let one : i ≡ j = omega arith in
      rw (← one) is_moved;
}

-- what was remembered of "some make both true" is right
pub both_recalled : (at now : Contents) (i a b none : ℕ) (r : Option Edge) → at ≡ now → AreRight at →
    IfSome r (λ e. HasAnswer at.state (record { op = 10 + 4 * i; a = a; b = b; c = none; r = e.0 })) → IfSome r (λ e. IsEdge at.state e.0) → IfSome r (λ e. HasFunction now (joined_over (join_of false) (list_at now i) (joined (join_of true) (function_at now a) (function_at now b))) e.0)
both_recalled at now i a b none (Some e) same are has live =
    subst (λ (c : Contents). HasFunction c (joined_over (join_of false) (list_at c i) (joined (join_of true) (function_at c a) (function_at c b))) e.0) same (record { live = live; function = (are.right _ has).both i refl })
both_recalled at now i a b none None same are has live = tt

-- and so is what was remembered of a shift
pub moved_recalled : (at now : Contents) (i a none : ℕ) (r : Option Edge) → at ≡ now → AreRight at →
    IfSome r (λ e. HasAnswer at.state (record { op = 11 + 4 * i; a = a; b = none; c = none; r = e.0 })) → IfSome r (λ e. IsEdge at.state e.0) → IfSome r (λ e. HasFunction now (shifted (list_at now i) (function_at now a)) e.0)
moved_recalled at now i a none (Some e) same are has live =
    subst (λ (c : Contents). HasFunction c (shifted (list_at c i) (function_at c a)) e.0) same (record { live = live; function = (are.right _ has).moved i refl })
moved_recalled at now i a none None same are has live = tt

-- answers stay right where the nodes and the answers stay
pub right_same : (old new : Contents) → AreRight old → new.state.table ≡ old.state.table → new.state.answers ≡ old.state.answers → new.lists ≡ old.lists → IsStore new.state → AreRight new
right_same old new are table answers lists store = record {
  store = store;
  right = λ x has.
      let had : HasAnswer old.state x = rw (← answers) has in
      right_of old new x lists (λ n live. ap (λ t. value (diagram_at t n)) table) are.store had (are.right x had);
}

-- and where some answers go and the nodes that stay keep their diagrams
pub right_fewer : (old new : Contents) → AreRight old → ((n : ℕ) → IsEdge new.state n → diagram_of new.state n ≡ diagram_of old.state n) → ((x : Answer) → HasAnswer new.state x → HasAnswer old.state x) → new.lists ≡ old.lists → IsStore new.state → AreRight new
right_fewer old new are meaning fewer lists store = record {
  store = store;
  right = λ x has.
      let live = store.answers_live x has in
      rw (lists, ap value (meaning x.a live.0), ap value (meaning x.b live.1), ap value (meaning x.c live.2), ap value (meaning x.r live.3)) (are.right x (fewer x has));
}

-- a node of another number has another function
pub same_node : (at now : Contents) (a b : ℕ) → at ≡ now → AreRight at → IsEdge now.state a → IsEdge now.state b → function_at now a ≡ function_at now b → a ≡ b
same_node at now a b same are a_live b_live equal =
    let here : AreRight now = subst (λ (c : Contents). AreRight c) same are in
    here.store.one a b a_live b_live equal

-- a new store has no answers
pub right_new : (c : Contents) (levels budget : ℕ) → IsNewStore c.state levels budget → AreRight c
right_new c levels budget is = record { store = is.store; right = λ x has. absurd (is.no_answer x has) }

-- without answers all are right
pub right_none : (c : Contents) → IsStore c.state → ((x : Answer) → HasAnswer c.state x → ⊥) → AreRight c
right_none c store none = record { store = store; right = λ x has. absurd (none x has) }

over_below : (all : Bool) (i n op : ℕ) → op < 8 + 4 * n → op ≡ over_op all i → i < n
over_below true i n op known is = omega arith
over_below false i n op known is = omega arith

-- answers stay right where a list comes behind the others
pub answer_more : (lists : List (List ℕ)) (more : List ℕ) (op : ℕ) (f g h r : Function) → IsAnswer lists op f g h r → IsAnswer (lists ++ more ∷ []) op f g h r
answer_more lists more op f g h r is = record {
  known = (let long : length (lists ++ more ∷ []) ≡ length lists + 1 = length-append lists (more ∷ []) in omega (arith, is.known));
  choice = is.choice;
  over = λ all i same. rw (before_end lists more [] i (over_below all i (length lists) op is.known same)) (is.over all i same);
  both = λ i same. rw (before_end lists more [] i (omega (arith, is.known))) (is.both i same);
  moved = λ i same. rw (before_end lists more [] i (omega (arith, is.known))) (is.moved i same);
}

pub right_pushed : (state : State) (xs ys : List LevelList) (x : LevelList) (ok : Bool) → ys ≡ (if ok then xs ++ x ∷ [] else xs) → AreRight (record { state = state; lists = map (λ l. l.levels.items) xs }) → AreRight (record { state = state; lists = map (λ l. l.levels.items) ys })
right_pushed state xs ys x true is are = rw (is, map-append (λ l. l.levels.items) xs (x ∷ [])) (record { store = are.store; right = λ a has. answer_more _ _ _ _ _ _ _ (are.right a has) })
right_pushed state xs ys x false is are = rw is are

pub pushed_small : (n m : ℕ) (ok : Bool) → m ≡ (if ok then n + 1 else n) → n < 256 → m ≤ 256
pushed_small n m true is small = omega arith
pushed_small n m false is small = omega arith
