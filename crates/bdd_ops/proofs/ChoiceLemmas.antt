-- The steps of a choice.
use Rattle.std.proofs.Common.{◌≡◌, ℕ, min, sym, ◌∙◌, ap, subst, refl, List, ◌++◌, Result, Ok, Err, IfOk}
use Rattle.spec_model.specs.Diagrams.{Diagram, Function, value, ite, IsPartOf}
use Rattle.bdd_store.specs.declared.edge.Edge.{Edge}
use Rattle.bdd_store.specs.declared.fault.StoreFault.{StoreFault}
use Rattle.bdd_store.specs.State.{IsEdge, IsHeldBy, diagram_of}
use Rattle.bdd_store.proofs.Held.{held_more}
use Rattle.bdd_ops.specs.Functions.{split}
use Rattle.bdd_ops.specs.Reading.{IgnoresTo}
use Rattle.bdd_ops.specs.Contents.{Contents, function_at}
use Rattle.bdd_ops.specs.Steps.{Works, SameNodes, IsChoice, IsChoiceOfParts, IsSplit, level_at}
use Rattle.bdd_ops.specs.declared.frames.Choice.{Choice}
use Rattle.bdd_ops.specs.Questions.{AreHalves, AreLive, AreHeld, Chooses, MayChoose, SplitsChoice, choosing}
use Rattle.bdd_ops.proofs.DiagramLemmas.{part_of_itself, part_of_part}
use Rattle.bdd_ops.proofs.StepLemmas.{choice_joined, choice_ignores, choice_of_parts}
use Rattle.bdd_ops.proofs.StayLemmas.{Stays, carried, level_stays, held_there, held_part, held_later, held_over, same_there, split_held, answer_there}
use Rattle.bdd_ops.proofs.FrameLemmas.{least_after}
use Rattle.bdd_ops.proofs.QuestionLemmas.{HasParts, IsOfParts, IsClosed, Carries}

-- ---- the operation

pub choosing_has_parts : (c : Contents) → HasParts (choosing c)
choosing_has_parts c = record {
  low_live = λ level asked low high is. record { a_live = is.a_split.low_live; b_live = is.b_split.low_live; c_live = is.c_split.low_live };
  high_live = λ level asked low high is. record { a_live = is.a_split.high_live; b_live = is.b_split.high_live; c_live = is.c_split.high_live };
  low_after = λ level asked low high is. least_after level (level_at c low.a.0) (level_at c low.b.0) (level_at c low.c.0) is.a_split.low_after is.b_split.low_after is.c_split.low_after;
  high_after = λ level asked low high is. least_after level (level_at c high.a.0) (level_at c high.b.0) (level_at c high.c.0) is.a_split.high_after is.b_split.high_after is.c_split.high_after;
}

-- a choice is between parts of another's diagrams
pub record ArePartsOf (c : Contents) (q whole : Choice) : Type 0 where
  pub a_part : IsPartOf (diagram_of c.state q.a.0) (diagram_of c.state whole.a.0)
  pub b_part : IsPartOf (diagram_of c.state q.b.0) (diagram_of c.state whole.b.0)
  pub c_part : IsPartOf (diagram_of c.state q.c.0) (diagram_of c.state whole.c.0)

pub choosing_parts : (c : Contents) → IsOfParts (choosing c) (ArePartsOf c)
choosing_parts c = record {
  itself = λ q. record { a_part = part_of_itself (diagram_of c.state q.a.0); b_part = part_of_itself (diagram_of c.state q.b.0); c_part = part_of_itself (diagram_of c.state q.c.0) };
  on = λ x y z first second. record {
    a_part = part_of_part (diagram_of c.state x.a.0) (diagram_of c.state y.a.0) (diagram_of c.state z.a.0) first.a_part second.a_part;
    b_part = part_of_part (diagram_of c.state x.b.0) (diagram_of c.state y.b.0) (diagram_of c.state z.b.0) first.b_part second.b_part;
    c_part = part_of_part (diagram_of c.state x.c.0) (diagram_of c.state y.c.0) (diagram_of c.state z.c.0) first.c_part second.c_part;
  };
  low = λ level asked low high is. record { a_part = is.a_split.low_part; b_part = is.b_split.low_part; c_part = is.c_split.low_part };
  high = λ level asked low high is. record { a_part = is.a_split.high_part; b_part = is.b_split.high_part; c_part = is.c_split.high_part };
}

-- ---- what is held

pub choosing_closed : (c : Contents) (starts : List ℕ) → IsClosed (choosing c) (AreHeld c starts)
choosing_closed c starts = record {
  low = λ level asked low high held is. record {
    a_held = held_part c.state starts asked.a.0 low.a.0 held.a_held is.a_split.low_live is.a_split.low_part;
    b_held = held_part c.state starts asked.b.0 low.b.0 held.b_held is.b_split.low_live is.b_split.low_part;
    c_held = held_part c.state starts asked.c.0 low.c.0 held.c_held is.c_split.low_live is.c_split.low_part;
  };
  high = λ level asked low high held is. record {
    a_held = held_part c.state starts asked.a.0 high.a.0 held.a_held is.a_split.high_live is.a_split.high_part;
    b_held = held_part c.state starts asked.b.0 high.b.0 held.b_held is.b_split.high_live is.b_split.high_part;
    c_held = held_part c.state starts asked.c.0 high.c.0 held.c_held is.c_split.high_live is.c_split.high_part;
  };
}

pub choice_live : (c : Contents) (starts : List ℕ) (asked : Choice) → AreHeld c starts asked → AreLive c asked
choice_live c starts asked held = record { a_live = held.a_held.live; b_live = held.b_held.live; c_live = held.c_held.live }

pub choice_held_more : (c : Contents) (starts more : List ℕ) (asked : Choice) → AreHeld c starts asked → AreHeld c (starts ++ more) asked
choice_held_more c starts more asked held = record {
  a_held = held_more c.state starts more asked.a.0 held.a_held;
  b_held = held_more c.state starts more asked.b.0 held.b_held;
  c_held = held_more c.state starts more asked.c.0 held.c_held;
}

-- once others worked, behind a stack that grew
pub choice_held_now : (first now : Contents) (base stack more : List ℕ) (asked : Choice) → Works first now base → stack ≡ base ++ more → AreHeld first base asked → AreHeld now stack asked
choice_held_now first now base stack more asked works is held = record {
  a_held = held_over now.state base stack more asked.a.0 is (held_later first now base asked.a.0 works held.a_held);
  b_held = held_over now.state base stack more asked.b.0 is (held_later first now base asked.b.0 works held.b_held);
  c_held = held_over now.state base stack more asked.c.0 is (held_later first now base asked.c.0 works held.c_held);
}

-- ---- what stays

choose_same : (old new : Contents) (asked : Choice) → Stays old new asked.a.0 → Stays old new asked.b.0 → Stays old new asked.c.0 →
    ite (function_at new asked.a.0) (function_at new asked.b.0) (function_at new asked.c.0) ≡ ite (function_at old asked.a.0) (function_at old asked.b.0) (function_at old asked.c.0)
choose_same old new asked of_a of_b of_c =
    ap (λ (f : Function). ite f (function_at new asked.b.0) (function_at new asked.c.0)) (carried old new asked.a.0 of_a)
    ∙ (ap (λ (f : Function). ite (function_at old asked.a.0) f (function_at new asked.c.0)) (carried old new asked.b.0 of_b)
    ∙ ap (λ (f : Function). ite (function_at old asked.a.0) (function_at old asked.b.0) f) (carried old new asked.c.0 of_c))

-- an answer stays one
chooses_stays : (old new : Contents) (asked : Choice) (n : ℕ) → Stays old new asked.a.0 → Stays old new asked.b.0 → Stays old new asked.c.0 → Stays old new n → Chooses old asked n → Chooses new asked n
chooses_stays old new asked n of_a of_b of_c of_n is = record {
  live = of_n.0;
  function = carried old new n of_n ∙ (is.function ∙ sym (choose_same old new asked of_a of_b of_c));
}

pub chooses_same : (old new : Contents) (asked : Choice) (n : ℕ) → SameNodes old new → AreLive old asked → Chooses old asked n → Chooses new asked n
chooses_same old new asked n same live is =
    chooses_stays old new asked n (same_there old new asked.a.0 same live.a_live) (same_there old new asked.b.0 same live.b_live) (same_there old new asked.c.0 same live.c_live) (same_there old new n same is.live) is

pub choice_live_later : (old new : Contents) (starts : List ℕ) (asked : Choice) → Works old new starts → AreHeld old starts asked → AreLive new asked
choice_live_later old new starts asked works held = record {
  a_live = (held_there old new starts asked.a.0 works held.a_held).0;
  b_live = (held_there old new starts asked.b.0 works held.b_held).0;
  c_live = (held_there old new starts asked.c.0 works held.c_held).0;
}

pub choosing_carries : (old new : Contents) (starts : List ℕ) → Works old new starts → Carries (choosing old) (choosing new) (AreHeld old starts) starts
choosing_carries old new starts works = record {
  closed = choosing_closed old starts;
  parts_after = choosing_has_parts new;
  levels = works.keeps.levels;
  first = λ q held.
      ap (λ (m : ℕ). min (min m (level_at new q.b.0)) (level_at new q.c.0)) (level_stays old new q.a.0 works.keeps.levels (held_there old new starts q.a.0 works held.a_held))
      ∙ (ap (λ (m : ℕ). min (min (level_at old q.a.0) m) (level_at new q.c.0)) (level_stays old new q.b.0 works.keeps.levels (held_there old new starts q.b.0 works held.b_held))
      ∙ ap (λ (m : ℕ). min (min (level_at old q.a.0) (level_at old q.b.0)) m) (level_stays old new q.c.0 works.keeps.levels (held_there old new starts q.c.0 works held.c_held)));
  live = λ q held live. choice_live_later old new starts q works held;
  splits = λ level asked low high held is. record {
    a_split = split_held old new starts level asked.a.0 low.a.0 high.a.0 works held.a_held is.a_split;
    b_split = split_held old new starts level asked.b.0 low.b.0 high.b.0 works held.b_held is.b_split;
    c_split = split_held old new starts level asked.c.0 low.c.0 high.c.0 works held.c_held is.c_split;
  };
  answers = λ q n held there is.
      chooses_stays old new q n (held_there old new starts q.a.0 works held.a_held) (held_there old new starts q.b.0 works held.b_held) (held_there old new starts q.c.0 works held.c_held) (answer_there old new starts n works there is.live) is;
}

-- the answer, said of what the three were before
pub chosen_before : (first now : Contents) (base : List ℕ) (asked : Choice) (n : ℕ) → Works first now base → AreHeld first base asked → Chooses now asked n → IsChoice now (function_at first asked.a.0) (function_at first asked.b.0) (function_at first asked.c.0) n
chosen_before first now base asked n works held is = record {
  live = is.live;
  function = is.function ∙ choose_same first now asked (held_there first now base asked.a.0 works held.a_held) (held_there first now base asked.b.0 works held.b_held) (held_there first now base asked.c.0 works held.c_held);
}

-- ---- what may be made

may_choose_before : (first now : Contents) (base : List ℕ) (asked : Choice) (d : Diagram) → Works first now base → AreHeld first base asked → MayChoose now asked d → MayChoose first asked d
may_choose_before first now base asked d works held made =
    rw (← (held_there first now base asked.a.0 works held.a_held).1, ← (held_there first now base asked.b.0 works held.b_held).1, ← (held_there first now base asked.c.0 works held.c_held).1) made

-- a part's answer
pub choice_result : (first now : Contents) (base : List ℕ) (whole q : Choice) (n : ℕ) → Works first now base → AreHeld first base whole → ArePartsOf now q whole → Chooses now q n → IsEdge now.state n × MayChoose first whole (diagram_of now.state n)
choice_result first now base whole q n works held within is = (
  is.live,
  may_choose_before first now base whole (diagram_of now.state n) works held (record {
    x = diagram_of now.state q.a.0;
    y = diagram_of now.state q.b.0;
    z = diagram_of now.state q.c.0;
    x_part = within.a_part;
    y_part = within.b_part;
    z_part = within.c_part;
    is_choice = is.function;
  }),
)

-- what a part's question may make
pub choice_wider : (first now : Contents) (base : List ℕ) (whole q : Choice) → Works first now base → AreHeld first base whole → ArePartsOf now q whole → (d : Diagram) → MayChoose now q d → MayChoose first whole d
choice_wider first now base whole q works held within d made =
    may_choose_before first now base whole d works held (choice_of_parts (diagram_of now.state whole.a.0) (diagram_of now.state whole.b.0) (diagram_of now.state whole.c.0) (diagram_of now.state q.a.0) (diagram_of now.state q.b.0) (diagram_of now.state q.c.0) d within.a_part within.b_part within.c_part made)

-- ---- the answers of parts

-- they read no level up to that of the parts
pub low_ignores : (s : Contents) (level : ℕ) (asked : Choice) (low high : ℕ) → AreHalves (choosing s) level asked low high → IgnoresTo level (function_at s low)
low_ignores s level asked low high has =
    let splits = has.awaits.parts.splits in
    subst (λ (f : Function). IgnoresTo level f) (sym has.awaits.low_is.function) (choice_ignores level _ _ _ splits.a_split.low_ignores splits.b_split.low_ignores splits.c_split.low_ignores)

pub high_ignores : (s : Contents) (level : ℕ) (asked : Choice) (low high : ℕ) → AreHalves (choosing s) level asked low high → IgnoresTo level (function_at s high)
high_ignores s level asked low high has =
    let splits = has.awaits.parts.splits in
    subst (λ (f : Function). IgnoresTo level f) (sym has.high_is.function) (choice_ignores level _ _ _ splits.a_split.high_ignores splits.b_split.high_ignores splits.c_split.high_ignores)

-- what is split into the halves is the choice
whole_function : (s : Contents) (level : ℕ) (asked : Choice) (low high : ℕ) (r : Function) → AreHalves (choosing s) level asked low high → r ≡ split level (function_at s low) (function_at s high) → r ≡ ite (function_at s asked.a.0) (function_at s asked.b.0) (function_at s asked.c.0)
whole_function s level asked low high r has is_split =
    let splits = has.awaits.parts.splits in
    choice_joined level _ _ _ _ _ _ _ _ _ r _ _ splits.a_split.function splits.b_split.function splits.c_split.function is_split has.awaits.low_is.function has.high_is.function

-- the node that joins them is the choice between the three
pub join_chooses : (old new : Contents) (starts : List ℕ) (level : ℕ) (asked : Choice) (low high n : ℕ) → AreHalves (choosing old) level asked low high → Works old new starts → AreHeld old starts asked → IsSplit new level (function_at old low) (function_at old high) n → Chooses new asked n
join_chooses old new starts level asked low high n has works held is_split = record {
  live = is_split.live;
  function = whole_function old level asked low high (function_at new n) has is_split.function
      ∙ sym (choose_same old new asked (held_there old new starts asked.a.0 works held.a_held) (held_there old new starts asked.b.0 works held.b_held) (held_there old new starts asked.c.0 works held.c_held));
}

-- both may be made
pub low_may : (s : Contents) (level : ℕ) (asked : Choice) (low high : ℕ) → AreHalves (choosing s) level asked low high → MayChoose s asked (diagram_of s.state low)
low_may s level asked low high has =
    let p = has.awaits.low_part in
    let is = has.awaits.parts.splits in
    record { x = diagram_of s.state p.a.0; y = diagram_of s.state p.b.0; z = diagram_of s.state p.c.0; x_part = is.a_split.low_part; y_part = is.b_split.low_part; z_part = is.c_split.low_part; is_choice = has.awaits.low_is.function }

pub high_may : (s : Contents) (level : ℕ) (asked : Choice) (low high : ℕ) → AreHalves (choosing s) level asked low high → MayChoose s asked (diagram_of s.state high)
high_may s level asked low high has =
    let p = has.high_part in
    let is = has.awaits.parts.splits in
    record { x = diagram_of s.state p.a.0; y = diagram_of s.state p.b.0; z = diagram_of s.state p.c.0; x_part = is.a_split.high_part; y_part = is.b_split.high_part; z_part = is.c_split.high_part; is_choice = has.high_is.function }

-- an answer stays one where the nodes stay
pub choice_given : (old mid new : Contents) (f g h : Function) (r : Result Edge StoreFault) → SameNodes mid new → IfOk r (λ e. IsChoice mid f g h e.0) → IfOk r (λ e. IsChoice new f g h e.0)
choice_given old mid new f g h (Ok e) same is = let stays = same_there mid new e.0 same is.live in record { live = stays.0; function = carried mid new e.0 stays ∙ is.function }
choice_given old mid new f g h (Err fault) same is = tt
