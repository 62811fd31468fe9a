-- The steps of "some make both true".
use Rattle.std.proofs.Common.{◌≡◌, ℕ, inl, inr, ◌++◌, ◌<◌, min, arith, sym, ◌∙◌, ap, subst, refl, List, [], slice_index_or, Bool, true, false, ◌&&◌, if◌then◌else◌, Result, Ok, Err, IfOk}
use Rattle.spec_model.specs.Diagrams.{Diagram, constant, Function, value, IsPartOf}
use Rattle.bdd_store.specs.declared.edge.Edge.{Edge}
use Rattle.bdd_store.specs.declared.fault.StoreFault.{StoreFault}
use Rattle.bdd_store.specs.State.{IsEdge, IsHeldBy, diagram_of}
use Rattle.bdd_store.proofs.Held.{held_more}
use Rattle.bdd_ops.specs.Functions.{split, joined, joined_over, join_of, is_among}
use Rattle.bdd_ops.specs.Reading.{IgnoresTo}
use Rattle.bdd_ops.specs.Contents.{Contents, function_at, list_at}
use Rattle.bdd_ops.specs.declared.frames.Pair.{Pair}
use Rattle.bdd_ops.specs.Steps.{Works, HasFunction, IsSplitAt, IsUnfinished, IsQuantifiedPart, IsRelatedPart, IsConjunctionAt, JoinsOrSplits, joined_or_split, SameNodes, level_at}
use Rattle.bdd_ops.specs.Questions.{AwaitsHigh, AreHalves, AreBothLive, AreBothHeld, MayRelate, both_at, related_at, relating}
use Rattle.bdd_ops.proofs.DiagramLemmas.{part_of_itself, part_of_part}
use Rattle.bdd_ops.proofs.StayLemmas.{Stays, carried, level_stays, function_stays, held_there, held_part, held_later, held_over, same_there, split_held, answer_there}
use Rattle.bdd_ops.proofs.OverLemmas.{HasOver, unfinished_more, over_settled, over_low_ignores, over_high_ignores, over_given, over_made}
use Rattle.bdd_ops.proofs.QuestionLemmas.{HasParts, IsOfParts, IsClosed, Carries}

-- ---- conjunctions at once

and_true : (b : Bool) → b ≡ (b && true)
and_true true = refl
and_true false = refl

and_false : (b : Bool) → false ≡ (b && false)
and_false true = refl
and_false false = refl

and_same : (b : Bool) → b ≡ (b && b)
and_same true = refl
and_same false = refl

-- true and b
pub true_left : (c : Contents) (a b : ℕ) → IsEdge c.state b → diagram_of c.state a ≡ constant true → IsConjunctionAt c a b b
true_left c a b live always = record {
  live = live;
  one = inr refl;
  function = rw always refl;
  parts = λ x part. record { x = constant true; y = x; x_part = rw always refl; y_part = part; is_join = refl };
}

-- false and b
pub false_left : (c : Contents) (a b : ℕ) → IsEdge c.state a → diagram_of c.state a ≡ constant false → IsConjunctionAt c a b a
false_left c a b live never = record {
  live = live;
  one = inl refl;
  function = rw never refl;
  parts = λ x part.
      let is : x ≡ constant false = subst (λ (d : Diagram). IsPartOf x d) never part in
      record { x = x; y = diagram_of c.state b; x_part = part; y_part = part_of_itself (diagram_of c.state b); is_join = rw is refl };
}

-- a and true
pub true_right : (c : Contents) (a b : ℕ) → IsEdge c.state a → diagram_of c.state b ≡ constant true → IsConjunctionAt c a b a
true_right c a b live always = record {
  live = live;
  one = inl refl;
  function = rw always (λ i s. and_true (function_at c a s) i);
  parts = λ x part. record { x = x; y = constant true; x_part = part; y_part = rw always refl; is_join = λ i s. and_true (value x s) i };
}

-- a and false
pub false_right : (c : Contents) (a b : ℕ) → IsEdge c.state b → diagram_of c.state b ≡ constant false → IsConjunctionAt c a b b
false_right c a b live never = record {
  live = live;
  one = inr refl;
  function = rw never (λ i s. and_false (function_at c a s) i);
  parts = λ x part.
      let is : x ≡ constant false = subst (λ (d : Diagram). IsPartOf x d) never part in
      record { x = diagram_of c.state a; y = x; x_part = part_of_itself (diagram_of c.state a); y_part = part; is_join = rw is (λ i s. and_false (function_at c a s) i) };
}

-- a and a
pub same_both : (c : Contents) (a b : ℕ) → IsEdge c.state a → a ≡ b → IsConjunctionAt c a b a
same_both c a b live same = record {
  live = live;
  one = inl refl;
  function = rw (← same) (λ i s. and_same (function_at c a s) i);
  parts = λ x part. record { x = x; y = x; x_part = part; y_part = rw (← same) part; is_join = λ i s. and_same (value x s) i };
}

-- ---- the operation

pub related_more : (levels : List ℕ) (x y a b d : Diagram) → IsPartOf x a → IsPartOf y b → IsRelatedPart levels x y d → IsRelatedPart levels a b d
related_more levels x y a b d in_a in_b made = record {
  x = made.x;
  y = made.y;
  x_part = part_of_part made.x x a made.x_part in_a;
  y_part = part_of_part made.y y b made.y_part in_b;
  is_related = made.is_related;
}

-- what quantifying a conjunction may make
pub conjunction_more : (c : Contents) (list a b n : ℕ) (d : Diagram) → IsConjunctionAt c a b n → IsQuantifiedPart (join_of false) (list_at c list) (diagram_of c.state n) d → IsRelatedPart (list_at c list) (diagram_of c.state a) (diagram_of c.state b) d
conjunction_more c list a b n d is made =
    let join = is.parts made.x made.x_part in
    record {
      x = join.x;
      y = join.y;
      x_part = join.x_part;
      y_part = join.y_part;
      is_related = made.is_quantified ∙ ap (joined_over (join_of false) (list_at c list)) join.is_join;
    }

pub conjunction_held : (c : Contents) (starts : List ℕ) (asked : Pair) (n : ℕ) → IsConjunctionAt c asked.a.0 asked.b.0 n → AreBothHeld c starts asked → IsHeldBy c.state starts n
conjunction_held c starts asked n is held = elim is.one [ inl same ↦ subst (IsHeldBy c.state starts) (sym same) held.a_held | inr same ↦ subst (IsHeldBy c.state starts) (sym same) held.b_held ]

pub at_once_more : (old : Contents) (list a b n : ℕ) → IsConjunctionAt old a b n → (d : Diagram) → IsUnfinished (join_of false) (IsQuantifiedPart (join_of false) (list_at old list) (diagram_of old.state n)) d → MayRelate old list a b d
at_once_more old list a b n is d made = unfinished_more (join_of false) _ _ (λ x part. conjunction_more old list a b n x is part) d made

pub at_once_given : (old new : Contents) (list a b n : ℕ) (r : Result Edge StoreFault) → IsConjunctionAt old a b n → IfOk r (λ e. HasFunction new (joined_over (join_of false) (list_at old list) (function_at old n)) e.0) → IfOk r (λ e. HasFunction new (related_at old list a b) e.0)
at_once_given old new list a b n (Ok e) is has = record { live = has.live; function = has.function ∙ ap (joined_over (join_of false) (list_at old list)) is.function }
at_once_given old new list a b n (Err fault) is has = tt

related_same : (old new : Contents) (list a b : ℕ) → new.lists ≡ old.lists → Stays old new a → Stays old new b → related_at new list a b ≡ related_at old list a b
related_same old new list a b lists of_a of_b =
    ap (λ (l : List (List ℕ)). joined_over (join_of false) (slice_index_or l list []) (both_at new a b)) lists
    ∙ (ap (λ (f : Function). joined_over (join_of false) (list_at old list) (joined (join_of true) f (function_at new b))) (carried old new a of_a)
    ∙ ap (λ (f : Function). joined_over (join_of false) (list_at old list) (joined (join_of true) (function_at old a) f)) (carried old new b of_b))

pub related_before : (first now : Contents) (base : List ℕ) (list : ℕ) (asked : Pair) (n : ℕ) → Works first now base → AreBothHeld first base asked → HasFunction now (related_at now list asked.a.0 asked.b.0) n → HasFunction now (related_at first list asked.a.0 asked.b.0) n
related_before first now base list asked n works held has =
    subst (λ (f : Function). HasFunction now f n) (related_same first now list asked.a.0 asked.b.0 works.lists (held_there first now base asked.a.0 works held.a_held) (held_there first now base asked.b.0 works held.b_held)) has

pub related_now : (old new : Contents) (starts : List ℕ) (list : ℕ) (asked : Pair) (n : ℕ) → Works old new starts → AreBothHeld old starts asked → HasFunction new (related_at old list asked.a.0 asked.b.0) n → HasFunction new (related_at new list asked.a.0 asked.b.0) n
related_now old new starts list asked n works held has =
    subst (λ (f : Function). HasFunction new f n) (sym (related_same old new list asked.a.0 asked.b.0 works.lists (held_there old new starts asked.a.0 works held.a_held) (held_there old new starts asked.b.0 works held.b_held))) has

-- the answer, where the nodes stay
pub related_remembered : (mid new : Contents) (list a b n : ℕ) → SameNodes mid new → IsEdge mid.state a → IsEdge mid.state b → HasFunction mid (related_at mid list a b) n → HasFunction new (related_at new list a b) n
related_remembered mid new list a b n same a_live b_live has =
    subst (λ (f : Function). HasFunction new f n) (sym (related_same mid new list a b same.lists (same_there mid new a same a_live) (same_there mid new b same b_live))) (function_stays mid new _ n (same_there mid new n same has.live) has)

before_both : (level m n : ℕ) → level < m → level < n → level < min m n
before_both level m n before_m before_n = omega arith

pub relating_has_parts : (list : ℕ) (c : Contents) → HasParts (relating list c)
relating_has_parts list c = record {
  low_live = λ level asked low high is. record { a_live = is.a_split.low_live; b_live = is.b_split.low_live };
  high_live = λ level asked low high is. record { a_live = is.a_split.high_live; b_live = is.b_split.high_live };
  low_after = λ level asked low high is. before_both level (level_at c low.a.0) (level_at c low.b.0) is.a_split.low_after is.b_split.low_after;
  high_after = λ level asked low high is. before_both level (level_at c high.a.0) (level_at c high.b.0) is.a_split.high_after is.b_split.high_after;
}

-- a question is about parts of another's diagrams
pub record AreWithin (c : Contents) (q whole : Pair) : Type 0 where
  pub a_part : IsPartOf (diagram_of c.state q.a.0) (diagram_of c.state whole.a.0)
  pub b_part : IsPartOf (diagram_of c.state q.b.0) (diagram_of c.state whole.b.0)

pub relating_parts : (list : ℕ) (c : Contents) → IsOfParts (relating list c) (AreWithin c)
relating_parts list c = record {
  itself = λ q. record { a_part = part_of_itself (diagram_of c.state q.a.0); b_part = part_of_itself (diagram_of c.state q.b.0) };
  on = λ x y z first second. record {
    a_part = part_of_part (diagram_of c.state x.a.0) (diagram_of c.state y.a.0) (diagram_of c.state z.a.0) first.a_part second.a_part;
    b_part = part_of_part (diagram_of c.state x.b.0) (diagram_of c.state y.b.0) (diagram_of c.state z.b.0) first.b_part second.b_part;
  };
  low = λ level asked low high is. record { a_part = is.a_split.low_part; b_part = is.b_split.low_part };
  high = λ level asked low high is. record { a_part = is.a_split.high_part; b_part = is.b_split.high_part };
}

-- ---- what is held

pub relating_closed : (list : ℕ) (c : Contents) (starts : List ℕ) → IsClosed (relating list c) (AreBothHeld c starts)
relating_closed list c starts = record {
  low = λ level asked low high held is. record {
    a_held = held_part c.state starts asked.a.0 low.a.0 held.a_held is.a_split.low_live is.a_split.low_part;
    b_held = held_part c.state starts asked.b.0 low.b.0 held.b_held is.b_split.low_live is.b_split.low_part;
  };
  high = λ level asked low high held is. record {
    a_held = held_part c.state starts asked.a.0 high.a.0 held.a_held is.a_split.high_live is.a_split.high_part;
    b_held = held_part c.state starts asked.b.0 high.b.0 held.b_held is.b_split.high_live is.b_split.high_part;
  };
}

pub both_live : (c : Contents) (starts : List ℕ) (asked : Pair) → AreBothHeld c starts asked → AreBothLive c asked
both_live c starts asked held = record { a_live = held.a_held.live; b_live = held.b_held.live }

pub both_live_later : (old new : Contents) (starts : List ℕ) (asked : Pair) → Works old new starts → AreBothHeld old starts asked → AreBothLive new asked
both_live_later old new starts asked works held = record { a_live = (held_there old new starts asked.a.0 works held.a_held).0; b_live = (held_there old new starts asked.b.0 works held.b_held).0 }

pub both_held_more : (c : Contents) (starts more : List ℕ) (asked : Pair) → AreBothHeld c starts asked → AreBothHeld c (starts ++ more) asked
both_held_more c starts more asked held = record { a_held = held_more c.state starts more asked.a.0 held.a_held; b_held = held_more c.state starts more asked.b.0 held.b_held }

-- once others worked, behind a stack that grew
pub both_held_now : (first now : Contents) (base stack more : List ℕ) (asked : Pair) → Works first now base → stack ≡ base ++ more → AreBothHeld first base asked → AreBothHeld now stack asked
both_held_now first now base stack more asked works is held = record {
  a_held = held_over now.state base stack more asked.a.0 is (held_later first now base asked.a.0 works held.a_held);
  b_held = held_over now.state base stack more asked.b.0 is (held_later first now base asked.b.0 works held.b_held);
}

-- what works carries its questions
pub relating_carries : (list : ℕ) (old new : Contents) (starts : List ℕ) → Works old new starts → Carries (relating list old) (relating list new) (AreBothHeld old starts) starts
relating_carries list old new starts works = record {
  closed = relating_closed list old starts;
  parts_after = relating_has_parts list new;
  levels = works.keeps.levels;
  first = λ q held.
      ap (λ (m : ℕ). min m (level_at new q.b.0)) (level_stays old new q.a.0 works.keeps.levels (held_there old new starts q.a.0 works held.a_held))
      ∙ ap (λ (m : ℕ). min (level_at old q.a.0) m) (level_stays old new q.b.0 works.keeps.levels (held_there old new starts q.b.0 works held.b_held));
  live = λ q held live. both_live_later old new starts q works held;
  splits = λ level asked low high held is. record {
    a_split = split_held old new starts level asked.a.0 low.a.0 high.a.0 works held.a_held is.a_split;
    b_split = split_held old new starts level asked.b.0 low.b.0 high.b.0 works held.b_held is.b_split;
  };
  answers = λ q n held there has. related_now old new starts list q n works held (function_stays old new _ n (answer_there old new starts n works there has.live) has);
}

-- ---- what may be made

may_relate_before : (first now : Contents) (base : List ℕ) (list : ℕ) (asked : Pair) (d : Diagram) → Works first now base → AreBothHeld first base asked → MayRelate now list asked.a.0 asked.b.0 d → MayRelate first list asked.a.0 asked.b.0 d
may_relate_before first now base list asked d works held made =
    rw (← works.lists, ← (held_there first now base asked.a.0 works held.a_held).1, ← (held_there first now base asked.b.0 works held.b_held).1) made

-- a part's answer
pub related_result : (first now : Contents) (base : List ℕ) (list : ℕ) (whole q : Pair) (n : ℕ) → Works first now base → AreBothHeld first base whole → AreWithin now q whole → HasFunction now (related_at now list q.a.0 q.b.0) n → IsEdge now.state n × MayRelate first list whole.a.0 whole.b.0 (diagram_of now.state n)
related_result first now base list whole q n works held within has = (
  has.live,
  may_relate_before first now base list whole (diagram_of now.state n) works held (inl (record {
    x = diagram_of now.state q.a.0;
    y = diagram_of now.state q.b.0;
    x_part = within.a_part;
    y_part = within.b_part;
    is_related = has.function;
  })),
)

-- what a part's question may make
pub related_wider : (first now : Contents) (base : List ℕ) (list : ℕ) (whole q : Pair) → Works first now base → AreBothHeld first base whole → AreWithin now q whole → (d : Diagram) → MayRelate now list q.a.0 q.b.0 d → MayRelate first list whole.a.0 whole.b.0 d
related_wider first now base list whole q works held within d made =
    may_relate_before first now base list whole d works held (unfinished_more (join_of false) _ _ (λ x is. related_more (list_at now list) (diagram_of now.state q.a.0) (diagram_of now.state q.b.0) (diagram_of now.state whole.a.0) (diagram_of now.state whole.b.0) x within.a_part within.b_part is) d made)

-- ---- the answers of parts

split_and : (b f0 f1 g0 g1 : Bool) → ((if b then f1 else f0) && (if b then g1 else g0)) ≡ (if b then (f1 && g1) else (f0 && g0))
split_and true f0 f1 g0 g1 = refl
split_and false f0 f1 g0 g1 = refl

-- a conjunction of split functions is split
pub both-split : (c : Contents) (level a a0 a1 b b0 b1 : ℕ) → IsSplitAt c level a a0 a1 → IsSplitAt c level b b0 b1 → both_at c a b ≡ split level (both_at c a0 b0) (both_at c a1 b1)
both-split c level a a0 a1 b b0 b1 a_split b_split =
    rw (a_split.function, b_split.function) (λ i s. split_and (s level) (function_at c a0 s) (function_at c a1 s) (function_at c b0 s) (function_at c b1 s) i)

-- and reads no more than they do
pub both_ignores : (level : ℕ) (f g : Function) → IgnoresTo level f → IgnoresTo level g → IgnoresTo level (joined (join_of true) f g)
both_ignores level f g of_f of_g m le s b = rw (of_f m le s b, of_g m le s b) refl

abbrev pub HasRelated : Contents → ℕ → ℕ → Pair → Pair → Pair → ℕ → ℕ → Type 0
HasRelated c list level asked p q low high =
    HasOver c false (list_at c list) level (both_at c asked.a.0 asked.b.0) (both_at c p.a.0 p.b.0) (both_at c q.a.0 q.b.0) (IsRelatedPart (list_at c list) (diagram_of c.state asked.a.0) (diagram_of c.state asked.b.0)) low high

-- both parts' answers
pub related_halves : (c : Contents) (list level : ℕ) (asked : Pair) (low high : ℕ) → (has : AreHalves (relating list c) level asked low high) → HasRelated c list level asked has.awaits.low_part has.high_part low high
related_halves c list level asked low high has =
    let p = has.awaits.low_part in
    let q = has.high_part in
    let is = has.awaits.parts.splits in
    record {
      is_split = both-split c level asked.a.0 p.a.0 q.a.0 asked.b.0 p.b.0 q.b.0 is.a_split is.b_split;
      f0_ignores = both_ignores level (function_at c p.a.0) (function_at c p.b.0) is.a_split.low_ignores is.b_split.low_ignores;
      f1_ignores = both_ignores level (function_at c q.a.0) (function_at c q.b.0) is.a_split.high_ignores is.b_split.high_ignores;
      low_is = has.awaits.low_is;
      high_is = has.high_is;
      low_result = record { x = diagram_of c.state p.a.0; y = diagram_of c.state p.b.0; x_part = is.a_split.low_part; y_part = is.b_split.low_part; is_related = has.awaits.low_is.function };
      high_result = record { x = diagram_of c.state q.a.0; y = diagram_of c.state q.b.0; x_part = is.a_split.high_part; y_part = is.b_split.high_part; is_related = has.high_is.function };
      whole_result = λ d made. record { x = diagram_of c.state asked.a.0; y = diagram_of c.state asked.b.0; x_part = part_of_itself (diagram_of c.state asked.a.0); y_part = part_of_itself (diagram_of c.state asked.b.0); is_related = made };
    }

pub related_low_ignores : (c : Contents) (list level : ℕ) (asked : Pair) (low high : ℕ) → AreHalves (relating list c) level asked low high → IgnoresTo level (function_at c low)
related_low_ignores c list level asked low high has = over_low_ignores _ _ _ _ _ _ _ _ _ _ (related_halves c list level asked low high has)

pub related_high_ignores : (c : Contents) (list level : ℕ) (asked : Pair) (low high : ℕ) → AreHalves (relating list c) level asked low high → IgnoresTo level (function_at c high)
related_high_ignores c list level asked low high has = over_high_ignores _ _ _ _ _ _ _ _ _ _ (related_halves c list level asked low high has)

-- the low part's answer, where it decides
pub related_settled : (c : Contents) (list level : ℕ) (asked : Pair) (low : ℕ) (high : Pair) → AwaitsHigh (relating list c) level asked low high → is_among level (list_at c list) ≡ true → diagram_of c.state low ≡ constant true → HasFunction c (related_at c list asked.a.0 asked.b.0) low
related_settled c list level asked low high has among settled =
    let p = has.low_part in
    let is = has.parts.splits in
    record {
      live = has.low_is.live;
      function = over_settled false (list_at c list) level (both_at c asked.a.0 asked.b.0) (both_at c p.a.0 p.b.0) (both_at c high.a.0 high.b.0) (function_at c low) (both-split c level asked.a.0 p.a.0 high.a.0 asked.b.0 p.b.0 high.b.0 is.a_split is.b_split)
          (both_ignores level (function_at c p.a.0) (function_at c p.b.0) is.a_split.low_ignores is.b_split.low_ignores) (both_ignores level (function_at c high.a.0) (function_at c high.b.0) is.a_split.high_ignores is.b_split.high_ignores) has.low_is.function among (ap value settled);
    }

-- what joins or splits them is the answer
pub related_given : (old new : Contents) (list level : ℕ) (asked : Pair) (low high n : ℕ) → AreHalves (relating list old) level asked low high →
    HasFunction new (joined_or_split (join_of false) (list_at old list) level (function_at old low) (function_at old high)) n → HasFunction new (related_at old list asked.a.0 asked.b.0) n
related_given old new list level asked low high n has given = over_given old new false (list_at old list) level _ _ _ _ low high n (related_halves old list level asked low high has) given

-- and may be made
pub related_made : (old : Contents) (list level : ℕ) (asked : Pair) (low high : ℕ) → AreHalves (relating list old) level asked low high →
    (d : Diagram) → JoinsOrSplits (join_of false) (list_at old list) level (diagram_of old.state low) (diagram_of old.state high) d → MayRelate old list asked.a.0 asked.b.0 d
related_made old list level asked low high has d made = over_made old false (list_at old list) level _ _ _ _ low high (related_halves old list level asked low high has) d made

-- and so may both answers
pub related_low_may : (old : Contents) (list level : ℕ) (asked : Pair) (low high : ℕ) → AreHalves (relating list old) level asked low high → MayRelate old list asked.a.0 asked.b.0 (diagram_of old.state low)
related_low_may old list level asked low high has = inl (related_halves old list level asked low high has).low_result

pub related_high_may : (old : Contents) (list level : ℕ) (asked : Pair) (low high : ℕ) → AreHalves (relating list old) level asked low high → MayRelate old list asked.a.0 asked.b.0 (diagram_of old.state high)
related_high_may old list level asked low high has = inl (related_halves old list level asked low high has).high_result
