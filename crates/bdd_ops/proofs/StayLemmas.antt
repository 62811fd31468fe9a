-- What stays while an operation works.
use Rattle.std.proofs.Common.{◌≡◌, ℕ, ◌<◌, sym, ◌∙◌, ap, subst, refl, inl, inr, List, [], ◌∷◌, ◌++◌, Result, Ok, Err, IfOk}
use Rattle.std.specs.List.{Contains}
use Rattle.std.proofs.lemmas.List.{append_assoc}
use Rattle.spec_model.specs.Diagrams.{Diagram, Function, value, IsPartOf}
use Rattle.spec_model.specs.DiagramReads.{Reads}
use Rattle.node_table.specs.Table.{diagram_at}
use Rattle.bdd_store.specs.declared.edge.Edge.{Edge}
use Rattle.bdd_store.specs.declared.fault.StoreFault.{StoreFault}
use Rattle.bdd_store.specs.State.{State, IsEdge, IsHeldBy, KeepsHeld, SameRoots, diagram_of}
use Rattle.bdd_store.proofs.Held.{start_held, held_more, held_stays, keeps_more, keeps_on}
use Rattle.bdd_ops.specs.Reading.{IgnoresTo}
use Rattle.bdd_ops.specs.Contents.{Contents, function_at}
use Rattle.bdd_ops.specs.Steps.{Works, SameNodes, HasFunction, IsSplitAt, level_of, level_at}
use Rattle.bdd_ops.proofs.DiagramLemmas.{part_of_part}

-- the node is there, and stands for what it stood for
abbrev pub Stays : Contents → Contents → ℕ → Type 0
Stays old new n = IsEdge new.state n × (diagram_of new.state n ≡ diagram_of old.state n)

-- a node that stays keeps its function
pub carried : (old new : Contents) (n : ℕ) → Stays old new n → function_at new n ≡ function_at old n
carried old new n stays = ap value stays.1

-- and its level
pub level_stays : (old new : Contents) (n : ℕ) → new.state.table.levels ≡ old.state.table.levels → Stays old new n → level_at new n ≡ level_at old n
level_stays old new n levels stays = ap (λ k. level_of k (diagram_of new.state n)) levels ∙ ap (level_of old.state.table.levels) stays.1

pub function_stays : (old new : Contents) (f : Function) (n : ℕ) → Stays old new n → HasFunction old f n → HasFunction new f n
function_stays old new f n stays has = record { live = stays.0; function = carried old new n stays ∙ has.function }

-- the parts of a node stay its parts
pub split_stays : (old new : Contents) (level n low high : ℕ) → new.state.table.levels ≡ old.state.table.levels → Stays old new n → Stays old new low → Stays old new high → IsSplitAt old level n low high → IsSplitAt new level n low high
split_stays old new level n low high levels of_n of_low of_high is = record {
  low_live = of_low.0;
  high_live = of_high.0;
  low_after = subst (λ (k : ℕ). level < k) (sym (level_stays old new low levels of_low)) is.low_after;
  high_after = subst (λ (k : ℕ). level < k) (sym (level_stays old new high levels of_high)) is.high_after;
  low_ignores = subst (λ (f : Function). IgnoresTo level f) (sym (carried old new low of_low)) is.low_ignores;
  high_ignores = subst (λ (f : Function). IgnoresTo level f) (sym (carried old new high of_high)) is.high_ignores;
  low_reads = λ x reads. is.low_reads x (subst (λ (d : Diagram). Reads x d) of_low.1 reads);
  high_reads = λ x reads. is.high_reads x (subst (λ (d : Diagram). Reads x d) of_high.1 reads);
  low_part = rw (of_low.1, of_n.1) is.low_part;
  high_part = rw (of_high.1, of_n.1) is.high_part;
  function = rw (carried old new n of_n, carried old new low of_low, carried old new high of_high) is.function;
}

-- ---- what stays

pub held_there : (old new : Contents) (starts : List ℕ) (n : ℕ) → Works old new starts → IsHeldBy old.state starts n → Stays old new n
held_there old new starts n works held = works.keeps.held n held

pub same_there : (old new : Contents) (n : ℕ) → SameNodes old new → IsEdge old.state n → Stays old new n
same_there old new n same live = (rw same.table live, ap (λ t. diagram_at t n) same.table)

-- ---- what is held

-- a part of what is held
pub held_part : (s : State) (starts : List ℕ) (whole n : ℕ) → IsHeldBy s starts whole → IsEdge s n → IsPartOf (diagram_of s n) (diagram_of s whole) → IsHeldBy s starts n
held_part s starts whole n held live part = record {
  live = live;
  needed = elim held.needed [
    | inl fixed ↦ inl (fixed.0, subst (IsPartOf (diagram_of s n)) fixed.1 part)
    | inr under ↦ inr (under.0, under.1, under.2, part_of_part (diagram_of s n) (diagram_of s whole) (diagram_of s under.0) part under.3)
  ];
}

pub held_later : (old new : Contents) (starts : List ℕ) (n : ℕ) → Works old new starts → IsHeldBy old.state starts n → IsHeldBy new.state starts n
held_later old new starts n works held = held_stays old.state new.state starts n works.keeps works.roots held

-- behind a stack that grew
pub held_over : (s : State) (base stack more : List ℕ) (n : ℕ) → stack ≡ base ++ more → IsHeldBy s base n → IsHeldBy s stack n
held_over s base stack more n is held = subst (λ (xs : List ℕ). IsHeldBy s xs n) (sym is) (held_more s base more n held)

pub held_same : (old new : Contents) (starts : List ℕ) (n : ℕ) → SameNodes old new → IsHeldBy old.state starts n → IsHeldBy new.state starts n
held_same old new starts n same held = held_later old new starts n (record {
  lists = same.lists;
  roots = λ k. rw same.kept refl;
  keeps = record { levels = ap (λ t. t.levels) same.table; budget = ap (λ t. t.budget) same.table; held = λ k is. same_there old new k same is.live };
}) held

-- ---- one after another

pub works_none : (c : Contents) (starts : List ℕ) → Works c c starts
works_none c starts = record { lists = refl; roots = λ n. refl; keeps = record { levels = refl; budget = refl; held = λ n held. (held.live, refl) } }

pub works_same : (old new : Contents) (starts : List ℕ) → SameNodes old new → Works old new starts
works_same old new starts same = record {
  lists = same.lists;
  roots = λ n. rw same.kept refl;
  keeps = record { levels = ap (λ t. t.levels) same.table; budget = ap (λ t. t.budget) same.table; held = λ n held. same_there old new n same held.live };
}

pub works_on : (old mid new : Contents) (starts : List ℕ) → Works old mid starts → Works mid new starts → Works old new starts
works_on old mid new starts first second = record {
  lists = second.lists ∙ first.lists;
  roots = λ n. second.roots n ∙ first.roots n;
  keeps = keeps_on old.state mid.state new.state starts first.keeps first.roots second.keeps;
}

pub works_less : (old new : Contents) (some more : List ℕ) → Works old new (some ++ more) → Works old new some
works_less old new some more works = record { lists = works.lists; roots = works.roots; keeps = keeps_more old.state new.state some more works.keeps }

-- a step behind others, over a stack that grew
pub works_behind : (first now new : Contents) (base stack more : List ℕ) → Works first now base → stack ≡ base ++ more → Works now new stack → Works first new base
works_behind first now new base stack more before is behind =
    works_on first now new base before (works_less now new base more (subst (λ (xs : List ℕ). Works now new xs) is behind))

-- to remember changes no node
pub works_remembered : (old mid new : Contents) (starts : List ℕ) → Works old mid starts → SameNodes mid new → Works old new starts
works_remembered old mid new starts works same = works_on old mid new starts works (works_same mid new starts same)

-- the parts of a held node stay its parts
pub split_held : (old new : Contents) (starts : List ℕ) (level n low high : ℕ) → Works old new starts → IsHeldBy old.state starts n → IsSplitAt old level n low high → IsSplitAt new level n low high
split_held old new starts level n low high works held is =
    split_stays old new level n low high works.keeps.levels (held_there old new starts n works held)
    (held_there old new starts low works (held_part old.state starts n low held is.low_live is.low_part))
    (held_there old new starts high works (held_part old.state starts n high held is.high_live is.high_part)) is

-- an answer that is on the stack
pub answer_there : (old new : Contents) (starts : List ℕ) (n : ℕ) → Works old new starts → Contains starts n → IsEdge old.state n → Stays old new n
answer_there old new starts n works there live = held_there old new starts n works (start_held old.state starts n (inr there) live)

-- what was given, where the nodes stay
pub given_same : (mid new : Contents) (f : Function) (r : Result Edge StoreFault) → SameNodes mid new → IfOk r (λ e. HasFunction mid f e.0) → IfOk r (λ e. HasFunction new f e.0)
given_same mid new f (Ok e) same has = function_stays mid new f e.0 (same_there mid new e.0 same has.live) has
given_same mid new f (Err fault) same has = tt

-- ---- two edges on the stack

pub same_on : (old mid new : Contents) → SameNodes old mid → SameNodes mid new → SameNodes old new
same_on old mid new first second = record { table = second.table ∙ first.table; kept = second.kept ∙ first.kept; lists = second.lists ∙ first.lists }

pub two_pushed : (old first second : List ℕ) (low high : ℕ) → first ≡ old ++ low ∷ [] → second ≡ first ++ high ∷ [] → second ≡ old ++ low ∷ high ∷ []
two_pushed old first second low high one two = two ∙ (ap (λ (xs : List ℕ). xs ++ high ∷ []) one ∙ append_assoc old (low ∷ []) (high ∷ []))

-- ---- a node that may be new

pub node_works : (at now new : Contents) (more : List ℕ) → at ≡ now → new.lists ≡ at.lists → KeepsHeld at.state new.state (at.state.stack ++ more) → SameRoots at.state new.state → Works now new (now.state.stack ++ more)
node_works at now new more same lists keeps roots = subst (λ (c : Contents). Works c new (c.state.stack ++ more)) same (record { lists = lists; roots = roots; keeps = keeps })
