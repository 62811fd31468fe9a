-- What marking what starts reach, and a sweep after it, leave.
use Rattle.std.proofs.Common.{◌≡◌, ◌⊎◌, ℕ, ◌+◌, ◌<◌, ◌≤◌, ◌==◌, Bool, true, false, List, length, get_or, Some, take, refl, sym, ◌∙◌, ap, subst, inl, inr, arith, [], ◌∷◌, ◌++◌, zero, suc}
use Rattle.std.specs.Prelude.{nat_lt, slice_get}
use Rattle.std.specs.List.{Contains}
use Rattle.std.proofs.lemmas.Bool.{cases_lt, false≢true, lt-ltb, ltb-true, or_cases, or_left, or_right}
use Rattle.std.proofs.lemmas.List.{get_or_past}
use Rattle.std.proofs.lemmas.List.Elements.{Contains-append_left, Contains-append_right, Contains-append_cases, Contains-push, Contains-push_cases}
use Rattle.spec_model.specs.Diagrams.{Diagram, constant, branch, IsPartOf}
use Rattle.node_table.specs.Table.{Table, is_marked, IsLive, IsSound, diagram_at, MarksNode, Sweeps}
use Rattle.node_table.proofs.Marking.{with_marks}
use Rattle.node_table.proofs.Meaning.{part_itself, diagram_at-constant, diagram_at-inner}
use Rattle.bdd_cache.specs.declared.answer.Answer.{Answer}
use Rattle.bdd_cache.specs.Kept.{IsKept, HasLiveNodes}
use Rattle.bdd_store.specs.State.{State, IsEdge, IsRoot, IsHeldBy, diagram_of}
use Rattle.bdd_store.specs.Kept.{IsWhole, IsBelowStart, MarksAll, MakesRoom}

-- ---- marking

pub marks_none : (t : Table) (Start : ℕ → Type 0) → ((r : ℕ) → Start r → ⊥) → MarksAll t t Start
marks_none t Start none = record { same = refl; kept = λ n h. h; reached = λ n live below. absurd (none below.0 below.1); only = λ n h. inl h }

further : (t : Table) (A B : ℕ → Type 0) (n : ℕ) → ((r : ℕ) → A r → B r) → IsBelowStart t A n → IsBelowStart t B n
further t A B n more below = (below.0, more below.0 below.1, below.2)

-- the same starts
pub marks_alike : (t s : Table) (A B : ℕ → Type 0) → MarksAll t s A → ((r : ℕ) → A r → B r) → ((r : ℕ) → B r → A r) → MarksAll t s B
marks_alike t s A B marks there back = record {
  same = marks.same;
  kept = marks.kept;
  reached = λ n live below. marks.reached n live (further t B A n back below);
  only = λ n h. elim (marks.only n h) [ inl before ↦ inl before | inr below ↦ inr (further t A B n there below) ];
}

marks_behind : (t : Table) (m : List Bool) (s' : Table) (A B : ℕ → Type 0) → MarksAll t (with_marks t m) A → MarksAll (with_marks t m) s' B → MarksAll t s' (λ r. A r ⊎ B r)
marks_behind t m s' A B first second = record {
  same = second.same;
  kept = λ n h. second.kept n (first.kept n h);
  reached = λ n live below. elim below.1 [
    | inl of_first ↦ second.kept n (first.reached n live (below.0, of_first, below.2))
    | inr of_second ↦ second.reached n live (below.0, of_second, below.2)
  ];
  only = λ n h. elim (second.only n h) [
    | inl before ↦ elim (first.only n before) [ inl once ↦ inl once | inr below ↦ inr (below.0, inl below.1, below.2) ]
    | inr below ↦ inr (below.0, inr below.1, below.2)
  ];
}

-- some starts, and then others
pub marks_both : (t s s' : Table) (A B : ℕ → Type 0) → MarksAll t s A → MarksAll s s' B → MarksAll t s' (λ r. A r ⊎ B r)
marks_both t s s' A B first second =
    marks_behind t s.marked s' A B (subst (λ x. MarksAll t x A) first.same first) (subst (λ x. MarksAll x s' B) first.same second)

marks_one : (s s' : Table) (n : ℕ) → MarksNode s s' n → MarksAll s s' (λ r. r ≡ n)
marks_one s s' n marks = record {
  same = marks.same;
  kept = marks.kept;
  reached = λ k live below. marks.reached k live (subst (λ r. IsPartOf (diagram_at s k) (diagram_at s r)) below.1 below.2);
  only = λ k h. elim (marks.only k h) [ inl before ↦ inl before | inr part ↦ inr (n, refl, part) ];
}

-- one start more
pub marks_next : (t s s' : Table) (A B : ℕ → Type 0) (n : ℕ) → MarksAll t s A → MarksNode s s' n → ((r : ℕ) → A r ⊎ (r ≡ n) → B r) → ((r : ℕ) → B r → A r ⊎ (r ≡ n)) → MarksAll t s' B
marks_next t s s' A B n marks more there back = marks_alike t s' (λ r. A r ⊎ (r ≡ n)) B (marks_both t s s' A (λ r. r ≡ n) marks (marks_one s s' n more)) there back

-- marking frees nothing
pub still_live : (t s : Table) (Start : ℕ → Type 0) → MarksAll t s Start → (n : ℕ) → IsLive t n → IsLive s n
still_live t s Start marks n live = subst (λ (u : Table). IsLive u n) (sym marks.same) live

-- ---- kept roots

-- a root is kept at a place below an end
abbrev pub IsKeptBelow : List ℕ → ℕ → ℕ → Type 0
IsKeptBelow kept end r = (r < end) × (0 < get_or kept r 0)

-- a place without a root
pub marks_skip : (t s : Table) (kept : List ℕ) (end : ℕ) → MarksAll t s (IsKeptBelow kept end) → get_or kept end 0 ≤ 0 → MarksAll t s (IsKeptBelow kept (end + 1))
marks_skip t s kept end marks none = marks_alike t s (IsKeptBelow kept end) (IsKeptBelow kept (end + 1)) marks (λ r is. (omega (arith, is.0), is.1)) (λ r is. elim (cases_lt r end) [
  | inl less ↦ (less, is.1)
  | inr past ↦ let e : r ≡ end = omega (arith, is.0) in absurd (omega (arith, none, is.1, ap (λ k. get_or kept k 0) e))
])

-- a place with one
pub marks_more : (t s s' : Table) (kept : List ℕ) (end : ℕ) → MarksAll t s (IsKeptBelow kept end) → 0 < get_or kept end 0 → MarksNode s s' end → MarksAll t s' (IsKeptBelow kept (end + 1))
marks_more t s s' kept end marks some more = marks_next t s s' (IsKeptBelow kept end) (IsKeptBelow kept (end + 1)) end marks more
    (λ r is. elim is [ inl before ↦ (omega (arith, before.0), before.1) | inr e ↦ (omega (arith, e), subst (λ k. 0 < get_or kept k 0) (sym e) some) ])
    (λ r is. elim (cases_lt r end) [ inl less ↦ inl (less, is.1) | inr past ↦ inr (omega (arith, is.0)) ])

kept_within : (kept : List ℕ) (r : ℕ) → 0 < get_or kept r 0 → r < length kept
kept_within kept r some = elim (cases_lt r (length kept)) [ inl less ↦ less | inr past ↦ absurd (omega (arith, some, get_or_past kept r 0 past)) ]

-- all places
pub marks_kept : (t s : Table) (kept : List ℕ) (end : ℕ) → end ≡ length kept → MarksAll t s (IsKeptBelow kept end) → MarksAll t s (λ r. 0 < get_or kept r 0)
marks_kept t s kept end is marks = marks_alike t s (IsKeptBelow kept end) (λ r. 0 < get_or kept r 0) marks (λ r h. h.1) (λ r some. (omega (arith, is, kept_within kept r some), some))

-- ---- entries of a list

-- one entry more
pub marks_entry : (t s s' : Table) (some more : List ℕ) (n : ℕ) → more ≡ some ++ n ∷ [] → MarksAll t s (λ r. Contains some r) → MarksNode s s' n → MarksAll t s' (λ r. Contains more r)
marks_entry t s s' some more n is marks node =
    subst (λ (xs : List ℕ). MarksAll t s' (λ r. Contains xs r)) (sym is) (marks_next t s s' (λ r. Contains some r) (λ r. Contains (some ++ n ∷ []) r) n marks node
    (λ r h. elim h [ inl before ↦ Contains-append_left some (n ∷ []) r before | inr e ↦ subst (λ k. Contains (some ++ n ∷ []) k) (sym e) (Contains-push some n) ])
    (λ r there. elim (Contains-push_cases some n r there) [ inl before ↦ inl before | inr e ↦ inr (sym e) ]))

-- ---- live nodes as the answers are kept by them

pub live_of_get : (live : List Bool) (n : ℕ) → slice_get live n ≡ Some true → get_or live n false ≡ true
live_of_get [] n e = cc
live_of_get (b ∷ live) zero e = cc
live_of_get (b ∷ live) (suc n) e = live_of_get live n e

get_of_live : (live : List Bool) (n : ℕ) → get_or live n false ≡ true → slice_get live n ≡ Some true
get_of_live [] n e = cc
get_of_live (b ∷ live) zero e = cc
get_of_live (b ∷ live) (suc n) e = get_of_live live n e

has_live_nodes : (t : Table) (a : Answer) → IsLive t a.a × IsLive t a.b × IsLive t a.c × IsLive t a.r → HasLiveNodes t.live a
has_live_nodes t a live = record {
  a = get_of_live t.live a.a live.0;
  b = get_of_live t.live a.b live.1;
  c = get_of_live t.live a.c live.2;
  r = get_of_live t.live a.r live.3;
}

-- ---- the sweep

-- a live node that stands for a constant is one
pub fixed_small : (t : Table) → IsSound t → (n : ℕ) (b : Bool) → IsLive t n → diagram_at t n ≡ constant b → n < 2
fixed_small t sound n b live is = elim (cases_lt n 2) [
  | inl less ↦ less
  | inr inner ↦ absurd (no_branch b _ _ _ (sym is ∙ diagram_at-inner t sound n inner live))
] where
  no_branch : (b : Bool) (level : ℕ) (low high : Diagram) → constant b ≡ branch level low high → ⊥
  no_branch b level low high same = cc

module _ (s : State) (roots : ℕ) (whole : IsWhole s roots) (more : List ℕ) (live : (n : ℕ) → Contains more n → IsEdge s n) where
  start_live : (r : ℕ) → IsRoot s r ⊎ Contains (s.stack ++ more) r → IsEdge s r
  start_live r (inl root) = whole.roots_live r root
  start_live r (inr there) = elim (Contains-append_cases s.stack more r there) [ inl before ↦ whole.stack_live r before | inr behind ↦ live r behind ]

  constant_live : (n : ℕ) → n < 2 → IsEdge s n
  constant_live n less = elim (cases_lt n 1) [
    | inl none ↦ let e : 0 ≡ n = omega arith in subst (IsEdge s) e whole.sound.false_live
    | inr some ↦ let e : 1 ≡ n = omega arith in subst (IsEdge s) e whole.sound.true_live
  ]

  -- the three kinds of starts, marked one after the other
  pub marks_starts : (t1 t2 t3 : Table) → MarksAll s.table t1 (λ r. IsRoot s r) → MarksAll t1 t2 (λ r. Contains s.stack r) → MarksAll t2 t3 (λ r. Contains more r) → MarksAll s.table t3 (λ r. IsRoot s r ⊎ Contains (s.stack ++ more) r)
  marks_starts t1 t2 t3 of_roots of_stack of_more =
      let both = marks_both s.table t1 t2 (λ r. IsRoot s r) (λ r. Contains s.stack r) of_roots of_stack in
      let all = marks_both s.table t2 t3 (λ r. IsRoot s r ⊎ Contains s.stack r) (λ r. Contains more r) both of_more in
      marks_alike s.table t3 (λ r. (IsRoot s r ⊎ Contains s.stack r) ⊎ Contains more r) (λ r. IsRoot s r ⊎ Contains (s.stack ++ more) r) all
      (λ r h. elim h [
        | inl (inl root) ↦ inl root
        | inl (inr there) ↦ inr (Contains-append_left s.stack more r there)
        | inr there ↦ inr (Contains-append_right s.stack more r there)
      ])
      (λ r h. elim h [
        | inl root ↦ inl (inl root)
        | inr there ↦ elim (Contains-append_cases s.stack more r there) [ inl before ↦ inl (inr before) | inr behind ↦ inr behind ]
      ])

  module _ (t1 t2 : Table) (marks : MarksAll s.table t1 (λ r. IsRoot s r ⊎ Contains (s.stack ++ more) r)) (sound1 : IsSound t1) (sweeps : Sweeps t1 t2) (sound2 : IsSound t2) where
    stays : (n : ℕ) → IsHeldBy s (s.stack ++ more) n → IsLive t2 n
    stays n held = elim held.needed [
      | inl fixed ↦ sweeps.live n ∙ or_left (nat_lt n 2) (is_marked t1 n) (lt-ltb n 2 (fixed_small s.table whole.sound n fixed.0 held.live fixed.1))
      | inr under ↦ sweeps.live n ∙ or_right (nat_lt n 2) (is_marked t1 n) (marks.reached n held.live (under.0, under.1, under.3))
    ]

    live_before : (n : ℕ) → IsLive t1 n → IsEdge s n
    live_before n here = subst (λ t. IsLive t n) marks.same here

    stayed : (n : ℕ) → IsLive t2 n → IsHeldBy s (s.stack ++ more) n
    stayed n here =
        elim (or_cases (nat_lt n 2) (is_marked t1 n) (sym (sweeps.live n) ∙ here)) [
          | inl less ↦ let small : n < 2 = ltb-true n 2 less in record { live = constant_live n small; needed = inl (n == 1, diagram_at-constant s.table whole.sound n small) }
          | inr marked ↦ elim (marks.only n marked) [
            | inl before ↦ absurd (false≢true (sym (whole.unmarked n) ∙ before))
            | inr below ↦ record { live = live_before n (sound1.marked_live n marked); needed = inr (below.0, below.1, start_live below.0 below.1, below.2) }
          ]
        ]

    start_stays : (n : ℕ) → IsRoot s n ⊎ Contains (s.stack ++ more) n → IsLive t2 n
    start_stays n is = let here = start_live n is in stays n (record { live = here; needed = inr (n, is, here, part_itself (diagram_of s n)) })

    module _ (answers : List Answer) (gone : (a : Answer) → IsKept answers a → IsKept s.answers a × HasLiveNodes t2.live a) (there : (a : Answer) → IsKept s.answers a × HasLiveNodes t2.live a → IsKept answers a) where
      abbrev pub swept : State
      swept = record s { table = t2; answers = answers }

      swept_whole : IsWhole swept roots
      swept_whole = record {
        sound = sound2;
        unmarked = sweeps.marked;
        roots_live = λ n some. start_stays n (inl some);
        stack_live = λ n on. start_stays n (inr (Contains-append_left s.stack more n on));
        answers_live = λ a kept. let has = (gone a kept).1 in (live_of_get t2.live a.a has.a, live_of_get t2.live a.b has.b, live_of_get t2.live a.c has.c, live_of_get t2.live a.r has.r);
        counted = whole.counted;
        small = whole.small;
      }

      makes_room : MakesRoom s swept (s.stack ++ more)
      makes_room = record {
        levels = sweeps.bounds.levels ∙ ap (λ (t : Table). t.levels) marks.same;
        budget = sweeps.bounds.budget ∙ ap (λ (t : Table). t.budget) marks.same;
        stays = stays;
        stayed = stayed;
        meaning = λ n here. sweeps.meaning n here ∙ ap (λ t. diagram_at t n) marks.same;
        roots = refl;
        stack = refl;
        answers = λ a kept. (gone a kept).0;
        answers_stay = λ a kept nodes. there a (kept, has_live_nodes t2 a nodes);
      }

      pub room_made : IsWhole swept roots × MakesRoom s swept (s.stack ++ more)
      room_made = (swept_whole, makes_room)
