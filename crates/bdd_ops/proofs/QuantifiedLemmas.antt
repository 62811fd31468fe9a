-- The steps of "all" and "some".
use Rattle.std.proofs.Common.{◌≡◌, ℕ, inl, sym, ◌∙◌, ap, subst, List, [], slice_index_or, Bool, true, not}
use Rattle.spec_model.specs.Diagrams.{Diagram, constant, Function, value, IsPartOf}
use Rattle.bdd_store.specs.declared.edge.Edge.{Edge}
use Rattle.bdd_store.specs.State.{IsEdge, IsHeldBy, diagram_of}
use Rattle.bdd_ops.specs.Functions.{joined_over, join_of, is_among}
use Rattle.bdd_ops.specs.Reading.{IgnoresTo}
use Rattle.bdd_ops.specs.Contents.{Contents, function_at, list_at}
use Rattle.bdd_ops.specs.Steps.{Works, HasFunction, IsQuantifiedPart, JoinsOrSplits, joined_or_split, SameNodes}
use Rattle.bdd_ops.specs.Questions.{AwaitsHigh, AreHalves, MayMake, over_at, quantifying}
use Rattle.bdd_ops.proofs.DiagramLemmas.{part_of_itself, part_of_part}
use Rattle.bdd_ops.proofs.StayLemmas.{Stays, carried, level_stays, function_stays, held_there, held_part, same_there, split_held, answer_there}
use Rattle.bdd_ops.proofs.OverLemmas.{HasOver, unfinished_more, quantified_more, over_settled, over_low_ignores, over_high_ignores, over_given, over_made}
use Rattle.bdd_ops.proofs.QuestionLemmas.{HasParts, IsOfParts, IsClosed, Carries}

over_same : (old new : Contents) (all : Bool) (list a : ℕ) → new.lists ≡ old.lists → Stays old new a → over_at all new list a ≡ over_at all old list a
over_same old new all list a lists stays =
    ap (λ (l : List (List ℕ)). joined_over (join_of all) (slice_index_or l list []) (function_at new a)) lists ∙ ap (joined_over (join_of all) (list_at old list)) (carried old new a stays)

-- what it gives is the same before and after
pub over_before : (first now : Contents) (base : List ℕ) (all : Bool) (list a n : ℕ) → Works first now base → IsHeldBy first.state base a → HasFunction now (over_at all now list a) n → HasFunction now (over_at all first list a) n
over_before first now base all list a n works held has =
    subst (λ (f : Function). HasFunction now f n) (over_same first now all list a works.lists (held_there first now base a works held)) has

pub over_now : (old new : Contents) (starts : List ℕ) (all : Bool) (list a n : ℕ) → Works old new starts → IsHeldBy old.state starts a → HasFunction new (over_at all old list a) n → HasFunction new (over_at all new list a) n
over_now old new starts all list a n works held has =
    subst (λ (f : Function). HasFunction new f n) (sym (over_same old new all list a works.lists (held_there old new starts a works held))) has

-- the answer, where the nodes stay
pub over_remembered : (mid new : Contents) (all : Bool) (list a n : ℕ) → SameNodes mid new → IsEdge mid.state a → HasFunction mid (over_at all mid list a) n → HasFunction new (over_at all new list a) n
over_remembered mid new all list a n same live has =
    subst (λ (f : Function). HasFunction new f n) (sym (over_same mid new all list a same.lists (same_there mid new a same live))) (function_stays mid new _ n (same_there mid new n same has.live) has)

-- ---- the operation

pub quantifying_has_parts : (all : Bool) (list : ℕ) (c : Contents) → HasParts (quantifying all list c)
quantifying_has_parts all list c = record {
  low_live = λ level asked low high is. is.low_live;
  high_live = λ level asked low high is. is.high_live;
  low_after = λ level asked low high is. is.low_after;
  high_after = λ level asked low high is. is.high_after;
}

-- a question is about a part of another's diagram
abbrev pub IsWithin : Contents → Edge → Edge → Type 0
IsWithin c q a = IsPartOf (diagram_of c.state q.0) (diagram_of c.state a.0)

pub quantifying_parts : (all : Bool) (list : ℕ) (c : Contents) → IsOfParts (quantifying all list c) (IsWithin c)
quantifying_parts all list c = record {
  itself = λ q. part_of_itself (diagram_of c.state q.0);
  on = λ a b d first second. part_of_part (diagram_of c.state a.0) (diagram_of c.state b.0) (diagram_of c.state d.0) first second;
  low = λ level asked low high is. is.low_part;
  high = λ level asked low high is. is.high_part;
}

abbrev pub HeldEdge : Contents → List ℕ → Edge → Type 0
HeldEdge c starts a = IsHeldBy c.state starts a.0

pub quantifying_closed : (all : Bool) (list : ℕ) (c : Contents) (starts : List ℕ) → IsClosed (quantifying all list c) (HeldEdge c starts)
quantifying_closed all list c starts = record {
  low = λ level asked low high held is. held_part c.state starts asked.0 low.0 held is.low_live is.low_part;
  high = λ level asked low high held is. held_part c.state starts asked.0 high.0 held is.high_live is.high_part;
}

-- what works carries its questions
pub quantifying_carries : (all : Bool) (list : ℕ) (old new : Contents) (starts : List ℕ) → Works old new starts → Carries (quantifying all list old) (quantifying all list new) (HeldEdge old starts) starts
quantifying_carries all list old new starts works = record {
  closed = quantifying_closed all list old starts;
  parts_after = quantifying_has_parts all list new;
  levels = works.keeps.levels;
  first = λ q held. level_stays old new q.0 works.keeps.levels (held_there old new starts q.0 works held);
  live = λ q held live. (held_there old new starts q.0 works held).0;
  splits = λ level asked low high held is. split_held old new starts level asked.0 low.0 high.0 works held is;
  answers = λ q n held there has. over_now old new starts all list q.0 n works held (function_stays old new _ n (answer_there old new starts n works there has.live) has);
}

-- ---- what may be made

may_make_before : (first now : Contents) (base : List ℕ) (all : Bool) (list a : ℕ) (d : Diagram) → Works first now base → IsHeldBy first.state base a → MayMake all now list a d → MayMake all first list a d
may_make_before first now base all list a d works held made = rw (← works.lists, ← (held_there first now base a works held).1) made

-- a part's answer
pub over_result : (first now : Contents) (base : List ℕ) (all : Bool) (list : ℕ) (whole q : Edge) (n : ℕ) → Works first now base → IsHeldBy first.state base whole.0 → IsWithin now q whole → HasFunction now (over_at all now list q.0) n → IsEdge now.state n × MayMake all first list whole.0 (diagram_of now.state n)
over_result first now base all list whole q n works held within has = (has.live, may_make_before first now base all list whole.0 (diagram_of now.state n) works held (inl (record { x = diagram_of now.state q.0; x_part = within; is_quantified = has.function })))

-- what a part's question may make
pub over_wider : (first now : Contents) (base : List ℕ) (all : Bool) (list : ℕ) (whole q : Edge) → Works first now base → IsHeldBy first.state base whole.0 → IsWithin now q whole → (d : Diagram) → MayMake all now list q.0 d → MayMake all first list whole.0 d
over_wider first now base all list whole q works held within d made =
    may_make_before first now base all list whole.0 d works held (unfinished_more (join_of all) _ _ (λ x is. quantified_more (join_of all) (list_at now list) (diagram_of now.state q.0) (diagram_of now.state whole.0) x within is) d made)

-- ---- the answers of parts

abbrev pub HasQuantified : Contents → Bool → ℕ → ℕ → ℕ → ℕ → ℕ → ℕ → ℕ → Type 0
HasQuantified c all list level a a0 a1 low high =
    HasOver c all (list_at c list) level (function_at c a) (function_at c a0) (function_at c a1) (IsQuantifiedPart (join_of all) (list_at c list) (diagram_of c.state a)) low high

-- both parts' answers
pub quantified_halves : (c : Contents) (all : Bool) (list level : ℕ) (asked : Edge) (low high : ℕ) → (has : AreHalves (quantifying all list c) level asked low high) → HasQuantified c all list level asked.0 has.awaits.low_part.0 has.high_part.0 low high
quantified_halves c all list level asked low high has =
    let is_split = has.awaits.parts.splits in
    record {
      is_split = is_split.function;
      f0_ignores = is_split.low_ignores;
      f1_ignores = is_split.high_ignores;
      low_is = has.awaits.low_is;
      high_is = has.high_is;
      low_result = record { x = diagram_of c.state has.awaits.low_part.0; x_part = is_split.low_part; is_quantified = has.awaits.low_is.function };
      high_result = record { x = diagram_of c.state has.high_part.0; x_part = is_split.high_part; is_quantified = has.high_is.function };
      whole_result = λ d is. record { x = diagram_of c.state asked.0; x_part = part_of_itself (diagram_of c.state asked.0); is_quantified = is };
    }

pub quantified_low_ignores : (c : Contents) (all : Bool) (list level : ℕ) (asked : Edge) (low high : ℕ) → AreHalves (quantifying all list c) level asked low high → IgnoresTo level (function_at c low)
quantified_low_ignores c all list level asked low high has = over_low_ignores _ _ _ _ _ _ _ _ _ _ (quantified_halves c all list level asked low high has)

pub quantified_high_ignores : (c : Contents) (all : Bool) (list level : ℕ) (asked : Edge) (low high : ℕ) → AreHalves (quantifying all list c) level asked low high → IgnoresTo level (function_at c high)
quantified_high_ignores c all list level asked low high has = over_high_ignores _ _ _ _ _ _ _ _ _ _ (quantified_halves c all list level asked low high has)

-- the low part's answer, where it decides
pub quantified_settled : (c : Contents) (all : Bool) (list level : ℕ) (asked : Edge) (low : ℕ) (high : Edge) → AwaitsHigh (quantifying all list c) level asked low high → is_among level (list_at c list) ≡ true → diagram_of c.state low ≡ constant (not all) → HasFunction c (over_at all c list asked.0) low
quantified_settled c all list level asked low high has among settled =
    let is_split = has.parts.splits in
    record {
      live = has.low_is.live;
      function = over_settled all (list_at c list) level (function_at c asked.0) (function_at c has.low_part.0) (function_at c high.0) (function_at c low) is_split.function is_split.low_ignores is_split.high_ignores has.low_is.function among (ap value settled);
    }

-- what joins or splits them is the answer
pub quantified_given : (old new : Contents) (all : Bool) (list level : ℕ) (asked : Edge) (low high n : ℕ) → AreHalves (quantifying all list old) level asked low high →
    HasFunction new (joined_or_split (join_of all) (list_at old list) level (function_at old low) (function_at old high)) n → HasFunction new (over_at all old list asked.0) n
quantified_given old new all list level asked low high n has given = over_given old new all (list_at old list) level _ _ _ _ low high n (quantified_halves old all list level asked low high has) given

-- and may be made
pub quantified_made : (old : Contents) (all : Bool) (list level : ℕ) (asked : Edge) (low high : ℕ) → AreHalves (quantifying all list old) level asked low high →
    (d : Diagram) → JoinsOrSplits (join_of all) (list_at old list) level (diagram_of old.state low) (diagram_of old.state high) d → MayMake all old list asked.0 d
quantified_made old all list level asked low high has d made = over_made old all (list_at old list) level _ _ _ _ low high (quantified_halves old all list level asked low high has) d made

-- and so may both answers
pub quantified_low_may : (old : Contents) (all : Bool) (list level : ℕ) (asked : Edge) (low high : ℕ) → AreHalves (quantifying all list old) level asked low high → MayMake all old list asked.0 (diagram_of old.state low)
quantified_low_may old all list level asked low high has = inl (quantified_halves old all list level asked low high has).low_result

pub quantified_high_may : (old : Contents) (all : Bool) (list level : ℕ) (asked : Edge) (low high : ℕ) → AreHalves (quantifying all list old) level asked low high → MayMake all old list asked.0 (diagram_of old.state high)
quantified_high_may old all list level asked low high has = inl (quantified_halves old all list level asked low high has).high_result
