-- What a look-up finds, and what a new node leaves.
use Rattle.std.proofs.Common.{◌≡◌, ◌≢◌, ◌⊎◌, ℕ, ◌+◌, ◌<◌, ◌≤◌, Bool, true, false, List, length, get_or, set, length-set, refl, sym, ◌∙◌, ap, subst, inl, inr, arith}
use Rattle.std.specs.Prelude.{count_by}
use Rattle.std.proofs.lemmas.Bool.{cases_lt, cases_eq, false≢true}
use Rattle.std.proofs.lemmas.List.{get_or_read}
use Rattle.spec_model.specs.Diagrams.{branch}
use Rattle.node_table.specs.declared.node.Node.{Node}
use Rattle.node_table.specs.Table.{Table, node_at, level_at, low_at, high_at, IsLive, IsMarked, IsNodeAt, HasNode, IsSound, IsFit, count_of, diagram_at, AddsNode, KeepsLive}
use Rattle.node_table.specs.Index.{IsKept, IsIndexOf, LiveBelow, EndsAt, Settles, named_at, node_of, used}
use Rattle.node_table.proofs.Slots.{absent, index_over, index_more, used-set, names_below, count_by-all}
use Rattle.node_table.proofs.Meaning.{diagram_at-inner, diagram_stays}
use Rattle.node_table.proofs.Marking.{live_within}

-- a node stands for its level and what its parts stand for
pub node_meaning : (t : Table) (node : Node) (n : ℕ) → IsSound t → IsNodeAt t node n → diagram_at t n ≡ branch node.level (diagram_at t node.low) (diagram_at t node.high)
node_meaning t node n sound at = diagram_at-inner t sound n at.inner at.live ∙ ap (λ (x : Node). branch x.level (diagram_at t x.low) (diagram_at t x.high)) at.has

module _ (t : Table) (slots : List ℕ) (count free : ℕ) (kept : IsKept t slots count free) where
  pub names_within : (k : ℕ) → get_or slots k 0 < length t.nodes
  names_within = names_below slots t.nodes t.live (length t.nodes) kept.index (omega arith) (omega (arith, kept.sound.constants))

  -- a slot that isn't empty, at the end of the search, names the node
  pub found_at : (node : Node) (at : ℕ) → EndsAt slots t.nodes node at → get_or slots at 0 ≢ 0 → IsNodeAt t node (get_or slots at 0)
  found_at node at ends some =
      let listed = kept.index.lists at some in
      elim ends.ends [
        | inl empty ↦ absurd (some empty)
        | inr other ↦ record { inner = listed.0; live = listed.2; has = other.1 }
      ]

  -- an empty one says that there is none
  pub none_at : (node : Node) (at : ℕ) → EndsAt slots t.nodes node at → get_or slots at 0 ≡ 0 → HasNode t node → ⊥
  none_at node at ends empty has =
      let is_node = has.1 in
      let within : has.0 < length t.nodes = let e = live_within t.live has.0 is_node.live in omega (arith, e, kept.sound.flags) in
      absent slots t.nodes node at ends empty has.0 (omega (arith, is_node.inner)) (kept.index.named has.0 (is_node.inner, within, is_node.live)) is_node.has

  module _ (node : Node) (fit : IsFit t node) (nodes : List Node) (live marked : List Bool) (n : ℕ) (settles : Settles t.nodes nodes t.live live t.marked marked n node)
      (dead : get_or t.live n false ≡ false) (taken : (k : ℕ) → k < n → get_or t.live k false ≡ true) (none : HasNode t node → ⊥) (more : count_of t ≢ t.budget) where
    abbrev pub grown_table : Table
    grown_table = record t { nodes = nodes; live = live; marked = marked }

    inner : 2 ≤ n
    inner = elim (cases_lt n 2) [
      | inl less ↦ absurd (elim (cases_lt n 1) [
        | inl less' ↦ let e : n ≡ 0 = omega arith in false≢true (sym dead ∙ (ap (λ i. get_or t.live i false) e ∙ kept.sound.false_live))
        | inr more' ↦ let e : n ≡ 1 = omega arith in false≢true (sym dead ∙ (ap (λ i. get_or t.live i false) e ∙ kept.sound.true_live))
      ])
      | inr more' ↦ more'
    ]

    other : (k : ℕ) → IsLive t k → k ≢ n
    other k h e = false≢true (sym dead ∙ (ap (λ i. get_or t.live i false) (sym e) ∙ h))

    live_stays : (k : ℕ) → IsLive t k → IsLive grown_table k
    live_stays k h = settles.other_flags k (other k h) ∙ h

    node_stays : (k : ℕ) → IsLive t k → node_of nodes k ≡ node_of t.nodes k
    node_stays k h = settles.others k (other k h)

    was_live : (k : ℕ) → IsLive grown_table k → IsLive t k ⊎ (k ≡ n)
    was_live k h = elim (cases_eq k n) [ inl e ↦ inr e | inr ne ↦ inl (sym (settles.other_flags k ne) ∙ h) ]

    level_stays : (k : ℕ) → IsLive t k → level_at grown_table k ≡ level_at t k
    level_stays k h = ap (λ (x : Node). x.level) (node_stays k h)

    fit_stays : (x : Node) → IsFit t x → IsFit grown_table x
    fit_stays x was = record {
      below = was.below;
      unlike = was.unlike;
      low_live = live_stays x.low was.low_live;
      high_live = live_stays x.high was.high_live;
      low_later = subst (λ k. x.level < k) (sym (level_stays x.low was.low_live)) was.low_later;
      high_later = subst (λ k. x.level < k) (sym (level_stays x.high was.high_live)) was.high_later;
    }

    not_alike : (k : ℕ) → 2 ≤ k → IsLive t k → node_of nodes k ≢ node_of nodes n
    not_alike k inner' h e = none (k, record { inner = inner'; live = h; has = sym (node_stays k h) ∙ (e ∙ settles.here) })

    was_marked : (k : ℕ) → IsMarked grown_table k → IsMarked t k
    was_marked k h = sym (settles.other_marks k) ∙ h

    still_marked : (k : ℕ) → IsMarked t k → IsMarked grown_table k
    still_marked k h = settles.other_marks k ∙ h

    pub grown_sound : IsSound grown_table
    grown_sound = record {
      constants = omega (arith, kept.sound.constants, settles.no_shorter);
      flags = settles.flags;
      marks = settles.marks;
      within = let less = kept.sound.within in omega (arith, less, more, settles.count);
      false_live = live_stays 0 kept.sound.false_live;
      true_live = live_stays 1 kept.sound.true_live;
      false_last = level_stays 0 kept.sound.false_live ∙ kept.sound.false_last;
      true_last = level_stays 1 kept.sound.true_live ∙ kept.sound.true_last;
      fit = λ k inner' h. elim (was_live k h) [
        | inl was ↦ subst (IsFit grown_table) (sym (node_stays k was)) (fit_stays (node_at t k) (kept.sound.fit k inner' was))
        | inr e ↦ subst (λ i. IsFit grown_table (node_of nodes i)) (sym e) (subst (IsFit grown_table) (sym settles.here) (fit_stays node fit))
      ];
      unlike = λ k m inner' inner'' h h' e. elim (was_live k h) [
        | inl was ↦ elim (was_live m h') [
          | inl was' ↦ kept.sound.unlike k m inner' inner'' was was' (sym (node_stays k was) ∙ (e ∙ node_stays m was'))
          | inr here ↦ absurd (not_alike k inner' was (e ∙ ap (node_of nodes) here))
        ]
        | inr here ↦ elim (was_live m h') [
          | inl was' ↦ absurd (not_alike m inner'' was' (sym e ∙ ap (node_of nodes) here))
          | inr here' ↦ here ∙ sym here'
        ]
      ];
      marked_live = λ k h. live_stays k (kept.sound.marked_live k (was_marked k h));
      low_marked = λ k inner' h. let was = was_marked k h in let is_live = kept.sound.marked_live k was in
          subst (λ (x : Node). IsMarked grown_table x.low) (sym (node_stays k is_live)) (still_marked (low_at t k) (kept.sound.low_marked k inner' was));
      high_marked = λ k inner' h. let was = was_marked k h in let is_live = kept.sound.marked_live k was in
          subst (λ (x : Node). IsMarked grown_table x.high) (sym (node_stays k is_live)) (still_marked (high_at t k) (kept.sound.high_marked k inner' was));
    }

    pub grown_has : IsNodeAt grown_table node n
    grown_has = record { inner = inner; live = settles.live_here; has = settles.here }

    pub grown_node : IsNodeAt grown_table node n
    grown_node = record { inner = inner; live = settles.live_here; has = settles.here }

    pub grown_adds : AddsNode t grown_table n
    grown_adds = record {
      bounds = record { levels = refl; budget = refl };
      was_free = dead;
      count = settles.count;
      live = settles.other_flags;
      marked = settles.other_marks;
      nodes = node_stays;
    }

    pub grown_keeps : KeepsLive t grown_table
    grown_keeps = record {
      live = live_stays;
      meaning = diagram_stays t grown_table (IsLive t) node_stays (λ k h inner'. let was = kept.sound.fit k inner' h in (was.low_live, was.high_live)) refl;
    }

    pub grown_meaning : diagram_at grown_table n ≡ branch node.level (diagram_at t node.low) (diagram_at t node.high)
    grown_meaning =
        node_meaning grown_table node n grown_sound grown_has
        ∙ (ap (λ d. branch node.level d (diagram_at grown_table node.high)) (grown_keeps.meaning node.low fit.low_live)
        ∙ ap (λ d. branch node.level (diagram_at t node.low) d) (grown_keeps.meaning node.high fit.high_live))

    small : length nodes ≤ t.budget
    small = elim settles.no_longer [
      | inl same ↦ omega (arith, same, kept.small)
      | inr end ↦
          let all : count_by (λ b. b) t.live ≡ length t.live = count_by-all (λ b. b) t.live false (λ k less. taken k (omega (arith, end.0, kept.sound.flags))) in
          omega (arith, end.0, end.1, all, kept.sound.flags, kept.sound.within, more)
    ]

    -- the search for the node is the same over the new columns
    ends_over : (slots' : List ℕ) (at : ℕ) → IsIndexOf slots' t.nodes t.live → EndsAt slots' t.nodes node at → get_or slots' at 0 ≡ 0 → EndsAt slots' nodes (node_of nodes n) at
    ends_over slots' at index ends empty = subst (λ x. EndsAt slots' nodes x at) (sym settles.here) (record {
      steps = ends.steps;
      within = ends.within;
      place = ends.place;
      passed = λ d less. let was = ends.passed d less in
          (was.0, λ e. was.1 (sym (node_stays (named_at slots' node d) (index.lists _ was.0).2) ∙ e));
      ends = inl empty;
    })

    pub grown_kept : (slots' : List ℕ) (at : ℕ) → IsIndexOf slots' t.nodes t.live → used slots' + 2 ≡ count → count + 1 ≤ length slots' → at < length slots' → EndsAt slots' t.nodes node at → get_or slots' at 0 ≡ 0 →
        IsKept grown_table (set slots' at n) (count + 1) (n + 1)
    grown_kept slots' at index names room within ends empty = record {
      sound = grown_sound;
      counted = omega (arith, kept.counted, settles.count);
      small = small;
      index = index_more slots' nodes at n (ends_over slots' at index ends empty) within empty (omega (arith, inner))
          (LiveBelow t.live (length t.nodes)) (LiveBelow live (length nodes))
          (index_over slots' t.nodes nodes (LiveBelow t.live (length t.nodes)) index (λ k listed. node_stays k listed.2))
          (λ k listed. omega (arith, listed.0))
          (λ k listed. (listed.0, omega (arith, listed.1, settles.no_shorter), live_stays k listed.2))
          (inner, settles.within, settles.live_here)
          (λ k listed. elim (was_live k listed.2) [
            | inl was ↦ inl (listed.0, let e = live_within t.live k was in omega (arith, e, kept.sound.flags), was)
            | inr e ↦ inr e
          ]);
      names = let e = used-set slots' nodes at n (ends_over slots' at index ends empty) within empty (omega (arith, inner)) in omega (arith, e, names);
      room = subst (λ size. count + 1 ≤ size) (sym (length-set slots' at n)) room;
      taken = λ k less. elim (cases_lt k n) [ inl below ↦ live_stays k (taken k below) | inr past ↦ let e : n ≡ k = omega arith in subst (λ i. get_or live i false ≡ true) e settles.live_here ];
      free_within = omega (arith, settles.within);
    }

-- ---- what the search's end says, as the code reads it

module _ (t : Table) (slots : List ℕ) (count free : ℕ) (kept : IsKept t slots count free) (node : Node) (slots' : List ℕ) (nodes' : List Node) (at named : ℕ)
    (same_slots : slots' ≡ slots) (same_nodes : nodes' ≡ t.nodes) (ends : EndsAt slots' nodes' node at) (within : at < length slots') (read : named ≡ get_or slots at named) where
  ends_here : EndsAt slots t.nodes node at
  ends_here = subst (λ s. EndsAt s t.nodes node at) same_slots (subst (λ ns. EndsAt slots' ns node at) same_nodes ends)

  named_is : named ≡ get_or slots at 0
  named_is = get_or_read slots at named (subst (λ s. at < length s) same_slots within) read 0

  pub found_in : named ≢ 0 → IsNodeAt t node named
  found_in some = subst (IsNodeAt t node) (sym named_is) (found_at t slots count free kept node at ends_here (λ e. some (named_is ∙ e)))

  pub none_in : named ≡ 0 → HasNode t node → ⊥
  none_in none = none_at t slots count free kept node at ends_here (sym named_is ∙ none)

-- other slots that fit as well
pub kept_over : (t : Table) (slots slots' : List ℕ) (count free : ℕ) → IsKept t slots count free → IsIndexOf slots' t.nodes t.live → used slots' + 2 ≡ count → count ≤ length slots' → IsKept t slots' count free
kept_over t slots slots' count free kept index names room =
    record { sound = kept.sound; counted = kept.counted; small = kept.small; index = index; names = names; room = room; taken = kept.taken; free_within = kept.free_within }
