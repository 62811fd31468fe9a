-- The steps of `and` and `or`.
use Rattle.std.proofs.Common.{◌≡◌, ℕ, List, sym, ◌∙◌, ap, subst, refl, true≢false, Bool, true, false, not, if◌then◌else◌, Option, Some, None, IfSome}
use Rattle.spec_model.specs.Diagrams.{Diagram, constant, Function, value, ite, IsPartOf}
use Rattle.bdd_store.specs.declared.edge.Edge.{Edge}
use Rattle.bdd_store.specs.State.{IsEdge, diagram_of}
use Rattle.bdd_ops.specs.Functions.{split, joined, join_of}
use Rattle.bdd_ops.specs.Reading.{IgnoresTo}
use Rattle.bdd_ops.specs.Contents.{Contents, function_at}
use Rattle.bdd_ops.specs.declared.frames.Pair.{Pair}
use Rattle.bdd_ops.specs.Steps.{Works, HasFunction, IsChoice, IsSplit, IsSplitAt, IsJoinOfParts, SameNodes}
use Rattle.bdd_ops.specs.Questions.{AreHalves, AreBothHeld, MayJoin, joined_of, joining}
use Rattle.bdd_ops.proofs.DiagramLemmas.{part_of_part}
use Rattle.bdd_ops.proofs.StayLemmas.{Stays, carried, function_stays, held_there, same_there, answer_there}
use Rattle.bdd_ops.proofs.JoinLemmas.{ite-and, ite-or}
use Rattle.bdd_ops.proofs.QuestionLemmas.{HasParts, IsOfParts, IsClosed, Carries}
use Rattle.bdd_ops.proofs.RelatedLemmas.{AreWithin, relating_has_parts, relating_parts, relating_closed, relating_carries}

-- ---- joined at once

neutral : (all b : Bool) → join_of all all b ≡ b
neutral true b = refl
neutral false b = refl

decides : (all b : Bool) → join_of all (not all) b ≡ not all
decides true b = refl
decides false b = refl

swapped : (all a b : Bool) → join_of all a b ≡ join_of all b a
swapped true true true = refl
swapped true true false = refl
swapped true false true = refl
swapped true false false = refl
swapped false true true = refl
swapped false true false = refl
swapped false false true = refl
swapped false false false = refl

idle : (all b : Bool) → join_of all b b ≡ b
idle true true = refl
idle true false = refl
idle false true = refl
idle false false = refl

-- the order of the two makes no difference
pub joined_swapped : (all : Bool) (c : Contents) (a b : ℕ) → joined_of all c a b ≡ joined_of all c b a
joined_swapped all c a b i s = swapped all (function_at c a s) (function_at c b s) i

-- a neutral constant and b
pub neutral_left : (all : Bool) (c : Contents) (a b : ℕ) → IsEdge c.state b → diagram_of c.state a ≡ constant all → HasFunction c (joined_of all c a b) b
neutral_left all c a b live is = record { live = live; function = rw is (λ i s. sym (neutral all (function_at c b s)) i) }

-- one that decides, and b
pub decided_left : (all : Bool) (c : Contents) (a b : ℕ) → IsEdge c.state a → diagram_of c.state a ≡ constant (not all) → HasFunction c (joined_of all c a b) a
decided_left all c a b live is = record { live = live; function = rw is (λ i s. sym (decides all (function_at c b s)) i) }

pub neutral_right : (all : Bool) (c : Contents) (a b : ℕ) → IsEdge c.state a → diagram_of c.state b ≡ constant all → HasFunction c (joined_of all c a b) a
neutral_right all c a b live is = subst (λ (f : Function). HasFunction c f a) (joined_swapped all c b a) (neutral_left all c b a live is)

pub decided_right : (all : Bool) (c : Contents) (a b : ℕ) → IsEdge c.state b → diagram_of c.state b ≡ constant (not all) → HasFunction c (joined_of all c a b) b
decided_right all c a b live is = subst (λ (f : Function). HasFunction c f b) (joined_swapped all c b a) (decided_left all c b a live is)

pub joined_itself : (all : Bool) (c : Contents) (a b : ℕ) → IsEdge c.state a → a ≡ b → HasFunction c (joined_of all c a b) a
joined_itself all c a b live same = record { live = live; function = (λ i s. sym (idle all (function_at c a s)) i) ∙ ap (λ (n : ℕ). joined_of all c a n) same }

-- ---- both are choices

chosen_is : (all : Bool) (c : Contents) (a b decides : ℕ) → diagram_of c.state decides ≡ constant (not all) → (if all then ite (function_at c a) (function_at c b) (function_at c decides) else ite (function_at c a) (function_at c decides) (function_at c b)) ≡ joined_of all c a b
chosen_is true c a b decides is = ite-and (function_at c a) (function_at c b) (function_at c decides) (ap value is)
chosen_is false c a b decides is = ite-or (function_at c a) (function_at c decides) (function_at c b) (ap value is)

pub and_recalled : (all : Bool) (c : Contents) (a b decides : ℕ) (r : Option Edge) → all ≡ true → diagram_of c.state decides ≡ constant (not all) → IfSome r (λ e. IsChoice c (function_at c a) (function_at c b) (function_at c decides) e.0) → IfSome r (λ e. HasFunction c (joined_of all c a b) e.0)
and_recalled true c a b decides (Some e) is_all is has = record { live = has.live; function = has.function ∙ chosen_is true c a b decides is }
and_recalled true c a b decides None is_all is has = tt
and_recalled false c a b decides r is_all is has = absurd (true≢false (sym is_all))

pub or_recalled : (all : Bool) (c : Contents) (a b decides : ℕ) (r : Option Edge) → all ≡ false → diagram_of c.state decides ≡ constant (not all) → IfSome r (λ e. IsChoice c (function_at c a) (function_at c decides) (function_at c b) e.0) → IfSome r (λ e. HasFunction c (joined_of all c a b) e.0)
or_recalled false c a b decides (Some e) is_all is has = record { live = has.live; function = has.function ∙ chosen_is false c a b decides is }
or_recalled false c a b decides None is_all is has = tt
or_recalled true c a b decides r is_all is has = absurd (true≢false is_all)

pub and_chosen : (all : Bool) (c : Contents) (a b decides n : ℕ) → all ≡ true → diagram_of c.state decides ≡ constant (not all) → HasFunction c (joined_of all c a b) n → IsChoice c (function_at c a) (function_at c b) (function_at c decides) n
and_chosen true c a b decides n is_all is has = record { live = has.live; function = has.function ∙ sym (chosen_is true c a b decides is) }
and_chosen false c a b decides n is_all is has = absurd (true≢false (sym is_all))

pub or_chosen : (all : Bool) (c : Contents) (a b decides n : ℕ) → all ≡ false → diagram_of c.state decides ≡ constant (not all) → HasFunction c (joined_of all c a b) n → IsChoice c (function_at c a) (function_at c decides) (function_at c b) n
or_chosen false c a b decides n is_all is has = record { live = has.live; function = has.function ∙ sym (chosen_is false c a b decides is) }
or_chosen true c a b decides n is_all is has = absurd (true≢false is_all)

-- ---- what stays

joined_same : (all : Bool) (old new : Contents) (a b : ℕ) → Stays old new a → Stays old new b → joined_of all new a b ≡ joined_of all old a b
joined_same all old new a b of_a of_b =
    ap (λ (f : Function). joined (join_of all) f (function_at new b)) (carried old new a of_a) ∙ ap (λ (f : Function). joined (join_of all) (function_at old a) f) (carried old new b of_b)

joined_now : (all : Bool) (old new : Contents) (a b n : ℕ) → Stays old new a → Stays old new b → HasFunction new (joined_of all old a b) n → HasFunction new (joined_of all new a b) n
joined_now all old new a b n of_a of_b has = subst (λ (f : Function). HasFunction new f n) (sym (joined_same all old new a b of_a of_b)) has

-- the answer, where the nodes stay
pub joined_remembered : (all : Bool) (mid new : Contents) (a b n : ℕ) → SameNodes mid new → IsEdge mid.state a → IsEdge mid.state b → HasFunction mid (joined_of all mid a b) n → HasFunction new (joined_of all new a b) n
joined_remembered all mid new a b n same a_live b_live has =
    joined_now all mid new a b n (same_there mid new a same a_live) (same_there mid new b same b_live) (function_stays mid new _ n (same_there mid new n same has.live) has)

pub joining_has_parts : (all : Bool) (c : Contents) → HasParts (joining all c)
joining_has_parts all c = let is = relating_has_parts 0 c in record { low_live = is.low_live; high_live = is.high_live; low_after = is.low_after; high_after = is.high_after }

pub joining_parts : (all : Bool) (c : Contents) → IsOfParts (joining all c) (AreWithin c)
joining_parts all c = let is = relating_parts 0 c in record { itself = is.itself; on = is.on; low = is.low; high = is.high }

pub joining_closed : (all : Bool) (c : Contents) (starts : List ℕ) → IsClosed (joining all c) (AreBothHeld c starts)
joining_closed all c starts = let is = relating_closed 0 c starts in record { low = is.low; high = is.high }

pub joining_carries : (all : Bool) (old new : Contents) (starts : List ℕ) → Works old new starts → Carries (joining all old) (joining all new) (AreBothHeld old starts) starts
joining_carries all old new starts works =
    let is = relating_carries 0 old new starts works in
    record {
      closed = joining_closed all old starts;
      parts_after = joining_has_parts all new;
      levels = is.levels;
      first = is.first;
      live = is.live;
      splits = is.splits;
      answers = λ q n held there has.
          joined_now all old new q.a.0 q.b.0 n (held_there old new starts q.a.0 works held.a_held) (held_there old new starts q.b.0 works held.b_held) (function_stays old new _ n (answer_there old new starts n works there has.live) has);
    }

-- the answer, said of what the two were before
pub joined_before : (all : Bool) (first now : Contents) (base : List ℕ) (asked : Pair) (n : ℕ) → Works first now base → AreBothHeld first base asked → HasFunction now (joined_of all now asked.a.0 asked.b.0) n → HasFunction now (joined_of all first asked.a.0 asked.b.0) n
joined_before all first now base asked n works held has =
    subst (λ (f : Function). HasFunction now f n) (joined_same all first now asked.a.0 asked.b.0 (held_there first now base asked.a.0 works held.a_held) (held_there first now base asked.b.0 works held.b_held)) has

join_more : (all : Bool) (x y a b d : Diagram) → IsPartOf x a → IsPartOf y b → IsJoinOfParts (join_of all) x y d → IsJoinOfParts (join_of all) a b d
join_more all x y a b d in_a in_b made = record {
  x = made.x;
  y = made.y;
  x_part = part_of_part made.x x a made.x_part in_a;
  y_part = part_of_part made.y y b made.y_part in_b;
  is_join = made.is_join;
}

-- ---- what may be made

may_join_before : (all : Bool) (first now : Contents) (base : List ℕ) (asked : Pair) (d : Diagram) → Works first now base → AreBothHeld first base asked → MayJoin all now asked.a.0 asked.b.0 d → MayJoin all first asked.a.0 asked.b.0 d
may_join_before all first now base asked d works held made = rw (← (held_there first now base asked.a.0 works held.a_held).1, ← (held_there first now base asked.b.0 works held.b_held).1) made

-- a part's answer
pub joined_result : (all : Bool) (first now : Contents) (base : List ℕ) (whole q : Pair) (n : ℕ) → Works first now base → AreBothHeld first base whole → AreWithin now q whole → HasFunction now (joined_of all now q.a.0 q.b.0) n → IsEdge now.state n × MayJoin all first whole.a.0 whole.b.0 (diagram_of now.state n)
joined_result all first now base whole q n works held within has = (
  has.live,
  may_join_before all first now base whole (diagram_of now.state n) works held (record {
    x = diagram_of now.state q.a.0;
    y = diagram_of now.state q.b.0;
    x_part = within.a_part;
    y_part = within.b_part;
    is_join = has.function;
  }),
)

-- what a part's question may make
pub joined_wider : (all : Bool) (first now : Contents) (base : List ℕ) (whole q : Pair) → Works first now base → AreBothHeld first base whole → AreWithin now q whole → (d : Diagram) → MayJoin all now q.a.0 q.b.0 d → MayJoin all first whole.a.0 whole.b.0 d
joined_wider all first now base whole q works held within d made =
    may_join_before all first now base whole d works held (join_more all (diagram_of now.state q.a.0) (diagram_of now.state q.b.0) (diagram_of now.state whole.a.0) (diagram_of now.state whole.b.0) d within.a_part within.b_part made)

-- ---- the answers of parts

split_join : (all b f0 f1 g0 g1 : Bool) → join_of all (if b then f1 else f0) (if b then g1 else g0) ≡ (if b then join_of all f1 g1 else join_of all f0 g0)
split_join all true f0 f1 g0 g1 = refl
split_join all false f0 f1 g0 g1 = refl

-- split functions, joined, are split
joined-split : (all : Bool) (c : Contents) (level a a0 a1 b b0 b1 : ℕ) → IsSplitAt c level a a0 a1 → IsSplitAt c level b b0 b1 → joined_of all c a b ≡ split level (joined_of all c a0 b0) (joined_of all c a1 b1)
joined-split all c level a a0 a1 b b0 b1 a_split b_split =
    rw (a_split.function, b_split.function) (λ i s. split_join all (s level) (function_at c a0 s) (function_at c a1 s) (function_at c b0 s) (function_at c b1 s) i)

-- and read no more than the two do
joined_ignores : (all : Bool) (level : ℕ) (f g : Function) → IgnoresTo level f → IgnoresTo level g → IgnoresTo level (joined (join_of all) f g)
joined_ignores all level f g of_f of_g m le s b = rw (of_f m le s b, of_g m le s b) refl

pub low_ignores : (all : Bool) (c : Contents) (level : ℕ) (asked : Pair) (low high : ℕ) → AreHalves (joining all c) level asked low high → IgnoresTo level (function_at c low)
low_ignores all c level asked low high has =
    let is = has.awaits.parts.splits in
    subst (λ (f : Function). IgnoresTo level f) (sym has.awaits.low_is.function) (joined_ignores all level _ _ is.a_split.low_ignores is.b_split.low_ignores)

pub high_ignores : (all : Bool) (c : Contents) (level : ℕ) (asked : Pair) (low high : ℕ) → AreHalves (joining all c) level asked low high → IgnoresTo level (function_at c high)
high_ignores all c level asked low high has =
    let is = has.awaits.parts.splits in
    subst (λ (f : Function). IgnoresTo level f) (sym has.high_is.function) (joined_ignores all level _ _ is.a_split.high_ignores is.b_split.high_ignores)

-- what is split into both answers is the answer
whole_function : (all : Bool) (c : Contents) (level : ℕ) (asked : Pair) (low high : ℕ) (r : Function) → AreHalves (joining all c) level asked low high → r ≡ split level (function_at c low) (function_at c high) → r ≡ joined_of all c asked.a.0 asked.b.0
whole_function all c level asked low high r has is_split =
    let p = has.awaits.low_part in
    let q = has.high_part in
    let is = has.awaits.parts.splits in
    is_split ∙ (ap (λ (f : Function). split level f (function_at c high)) has.awaits.low_is.function ∙ (ap (λ (f : Function). split level (joined_of all c p.a.0 p.b.0) f) has.high_is.function
    ∙ sym (joined-split all c level asked.a.0 p.a.0 q.a.0 asked.b.0 p.b.0 q.b.0 is.a_split is.b_split)))

-- the node that joins them answers
pub joined_given : (all : Bool) (old new : Contents) (starts : List ℕ) (level : ℕ) (asked : Pair) (low high n : ℕ) → AreHalves (joining all old) level asked low high → Works old new starts → AreBothHeld old starts asked → IsSplit new level (function_at old low) (function_at old high) n → HasFunction new (joined_of all new asked.a.0 asked.b.0) n
joined_given all old new starts level asked low high n has works held is_split =
    joined_now all old new asked.a.0 asked.b.0 n (held_there old new starts asked.a.0 works held.a_held) (held_there old new starts asked.b.0 works held.b_held) (record {
      live = is_split.live;
      function = whole_function all old level asked low high (function_at new n) has is_split.function;
    })

-- and both may be made
pub low_may : (all : Bool) (c : Contents) (level : ℕ) (asked : Pair) (low high : ℕ) → AreHalves (joining all c) level asked low high → MayJoin all c asked.a.0 asked.b.0 (diagram_of c.state low)
low_may all c level asked low high has =
    let p = has.awaits.low_part in
    let is = has.awaits.parts.splits in
    record { x = diagram_of c.state p.a.0; y = diagram_of c.state p.b.0; x_part = is.a_split.low_part; y_part = is.b_split.low_part; is_join = has.awaits.low_is.function }

pub high_may : (all : Bool) (c : Contents) (level : ℕ) (asked : Pair) (low high : ℕ) → AreHalves (joining all c) level asked low high → MayJoin all c asked.a.0 asked.b.0 (diagram_of c.state high)
high_may all c level asked low high has =
    let p = has.high_part in
    let is = has.awaits.parts.splits in
    record { x = diagram_of c.state p.a.0; y = diagram_of c.state p.b.0; x_part = is.a_split.high_part; y_part = is.b_split.high_part; is_join = has.high_is.function }
