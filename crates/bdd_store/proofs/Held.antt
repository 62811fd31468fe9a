-- What is held, and what keeps it.
use Rattle.std.proofs.Common.{◌≡◌, ◌≢◌, ◌⊎◌, ℕ, ◌+◌, ◌<◌, ◌≤◌, Bool, true, false, cond, List, get_or, refl, sym, ◌∙◌, ap, subst, inl, inr, arith, [], ◌∷◌, ◌++◌, zero, suc}
use Rattle.std.specs.Prelude.{count_by}
use Rattle.std.specs.List.{Contains}
use Rattle.std.proofs.lemmas.Bool.{cases_lt, cases_Bool, false≢true}
use Rattle.std.proofs.lemmas.List.Sums.{sum_by-cons}
use Rattle.std.proofs.lemmas.List.Elements.{Contains-append_left, Contains-append_right, Contains-append_cases}
use Rattle.spec_model.specs.Diagrams.{Diagram, constant, branch, IsPartOf}
use Rattle.node_table.specs.Table.{Table, count_of, IsLive, IsSound, diagram_at}
use Rattle.node_table.proofs.Meaning.{part_itself}
use Rattle.bdd_cache.specs.declared.answer.Answer.{Answer}
use Rattle.bdd_cache.specs.Kept.{IsKept}
use Rattle.bdd_store.specs.State.{State, IsEdge, IsRoot, IsReached, IsFixed, IsUnder, IsHeldBy, IsFull, IsFullOf, KeepsHeld, KeepsEdges, KeepsAnswers, SameRoots, HasDiagram, HasAnswer, IsStore, WasThere, diagram_of}
use Rattle.bdd_store.specs.Kept.{MakesRoom}
use Rattle.bdd_store.proofs.Reclaiming.{fixed_small}

-- ---- what holds

-- a start holds itself
pub start_held : (s : State) (starts : List ℕ) (r : ℕ) → IsRoot s r ⊎ Contains starts r → IsEdge s r → IsHeldBy s starts r
start_held s starts r is live = record { live = live; needed = inr (r, is, live, part_itself (diagram_of s r)) }

-- the last two starts hold themselves
pub low_held : (s : State) (stack : List ℕ) (low high : ℕ) → IsEdge s low → IsHeldBy s (stack ++ low ∷ high ∷ []) low
low_held s stack low high live = start_held s (stack ++ low ∷ high ∷ []) low (inr (Contains-append_right stack (low ∷ high ∷ []) low (0, omega arith, refl))) live

pub high_held : (s : State) (stack : List ℕ) (low high : ℕ) → IsEdge s high → IsHeldBy s (stack ++ low ∷ high ∷ []) high
high_held s stack low high live = start_held s (stack ++ low ∷ high ∷ []) high (inr (Contains-append_right stack (low ∷ high ∷ []) high (1, omega arith, refl))) live

pub constant_held : (s : State) (starts : List ℕ) (n : ℕ) (b : Bool) → diagram_of s n ≡ constant b → IsEdge s n → IsHeldBy s starts n
constant_held s starts n b is live = record { live = live; needed = inl (b, is) }

start_wider : (s : State) (some more : List ℕ) (r : ℕ) → ((k : ℕ) → Contains some k → Contains more k) → IsRoot s r ⊎ Contains some r → IsRoot s r ⊎ Contains more r
start_wider s some more r wider (inl root) = inl root
start_wider s some more r wider (inr there) = inr (wider r there)

-- more starts hold more
pub held_wider : (s : State) (some more : List ℕ) (n : ℕ) → ((k : ℕ) → Contains some k → Contains more k) → IsHeldBy s some n → IsHeldBy s more n
held_wider s some more n wider held = record {
  live = held.live;
  needed = elim held.needed [ inl fixed ↦ inl fixed | inr under ↦ inr (under.0, start_wider s some more under.0 wider under.1, under.2, under.3) ];
}

pub held_more : (s : State) (some more : List ℕ) (n : ℕ) → IsHeldBy s some n → IsHeldBy s (some ++ more) n
held_more s some more n held = held_wider s some (some ++ more) n (λ k there. Contains-append_left some more k there) held

-- ---- what keeps what is held

pub keeps_wider : (old new : State) (some more : List ℕ) → ((k : ℕ) → Contains some k → Contains more k) → KeepsHeld old new more → KeepsHeld old new some
keeps_wider old new some more wider keeps = record { levels = keeps.levels; budget = keeps.budget; held = λ n held. keeps.held n (held_wider old some more n wider held) }

pub keeps_more : (old new : State) (some more : List ℕ) → KeepsHeld old new (some ++ more) → KeepsHeld old new some
keeps_more old new some more keeps = keeps_wider old new some (some ++ more) (λ k there. Contains-append_left some more k there) keeps

pub keeps_edges : (old new : State) (starts : List ℕ) → KeepsEdges old new → KeepsHeld old new starts
keeps_edges old new starts keeps = record { levels = keeps.levels; budget = keeps.budget; held = λ n held. (keeps.live n held.live, keeps.meaning n held.live) }

-- what is held stays held
pub held_stays : (old new : State) (starts : List ℕ) (n : ℕ) → KeepsHeld old new starts → SameRoots old new → IsHeldBy old starts n → IsHeldBy new starts n
held_stays old new starts n keeps roots held = record {
  live = (keeps.held n held).0;
  needed = elim held.needed [ inl fixed ↦ inl (fixed.0, (keeps.held n held).1 ∙ fixed.1) | inr under ↦ inr (stays_under under) ];
} where
  root_stays : (r : ℕ) → IsRoot old r ⊎ Contains starts r → IsRoot new r ⊎ Contains starts r
  root_stays r (inl root) = inl (omega (arith, root, roots r))
  root_stays r (inr there) = inr there

  stays_under : IsUnder old starts n → IsUnder new starts n
  stays_under under =
      let start = keeps.held under.0 (start_held old starts under.0 under.1 under.2) in
      let part : IsPartOf (diagram_of new n) (diagram_of old under.0) = subst (λ (d : Diagram). IsPartOf d (diagram_of old under.0)) (sym (keeps.held n held).1) under.3 in
      (under.0, root_stays under.0 under.1, start.0, subst (λ (d : Diagram). IsPartOf (diagram_of new n) d) (sym start.1) part)

-- one change after another
pub keeps_on : (old mid new : State) (starts : List ℕ) → KeepsHeld old mid starts → SameRoots old mid → KeepsHeld mid new starts → KeepsHeld old new starts
keeps_on old mid new starts first roots second = record {
  levels = second.levels ∙ first.levels;
  budget = second.budget ∙ first.budget;
  held = λ n held.
      let before = first.held n held in
      let behind = second.held n (held_stays old mid starts n first roots held) in
      (behind.0, behind.1 ∙ before.1);
}

-- a start that stands for a constant holds constants alone
fixed_start : (s : State) (starts : List ℕ) (r n : ℕ) (b : Bool) → diagram_of s r ≡ constant b → IsPartOf (diagram_of s n) (diagram_of s r) → (IsFixed s n) ⊎ IsUnder s starts n
fixed_start s starts r n b is part = inl (b, subst (IsPartOf (diagram_of s n)) is part)

-- what constants hold is held without them
pub without_constants : (s : State) (starts : List ℕ) (low high n : ℕ) (b d : Bool) → diagram_of s low ≡ constant b → diagram_of s high ≡ constant d → IsHeldBy s (starts ++ low ∷ high ∷ []) n → IsHeldBy s starts n
without_constants s starts low high n b d is_low is_high held = record { live = held.live; needed = elim held.needed [ inl fixed ↦ inl fixed | inr under ↦ of_start under ] }
  where
    of_constant : (r : ℕ) → Contains (low ∷ high ∷ []) r → IsPartOf (diagram_of s n) (diagram_of s r) → (IsFixed s n) ⊎ IsUnder s starts n
    of_constant r (zero, lt, is) part = fixed_start s starts r n b (ap (diagram_of s) (sym is) ∙ is_low) part
    of_constant r (suc zero, lt, is) part = fixed_start s starts r n d (ap (diagram_of s) (sym is) ∙ is_high) part
    of_constant r (suc (suc k), lt, is) part = absurd (omega (arith, lt))

    of_start : IsUnder s (starts ++ low ∷ high ∷ []) n → (IsFixed s n) ⊎ IsUnder s starts n
    of_start (r, inl root, live, part) = inr (r, inl root, live, part)
    of_start (r, inr there, live, part) = elim (Contains-append_cases starts (low ∷ high ∷ []) r there) [
      | inl before ↦ inr (r, inr before, live, part)
      | inr constants ↦ of_constant r constants part
    ]

-- ---- answers

-- the same answers, where all that is live stays
pub answers_kept : (old new : State) → IsStore old → KeepsEdges old new → new.answers ≡ old.answers → KeepsAnswers old new
answers_kept old new store keeps same a has =
    let before : HasAnswer old a = subst (λ (xs : List Answer). IsKept xs a) same has in
    let live = store.answers_live a before in (
      before,
      record {
        a = (live.0, keeps.meaning a.a live.0);
        b = (live.1, keeps.meaning a.b live.1);
        c = (live.2, keeps.meaning a.c live.2);
        r = (live.3, keeps.meaning a.r live.3);
      },
    )

pub answers_same : (s : State) → IsStore s → KeepsAnswers s s
answers_same s store = answers_kept s s store (record { levels = refl; budget = refl; live = λ n live. live; meaning = λ n live. refl }) refl

-- ---- counts of flags

abbrev weight : Bool → ℕ
weight b = cond b 1 0

weight-le : (a b : Bool) → (a ≡ true → b ≡ true) → weight a ≤ weight b
weight-le true b h = let e : weight b ≡ 1 = ap weight (h refl) in omega (arith, e)
weight-le false b h = omega arith

weight-back : (a b : Bool) → weight b ≤ weight a → b ≡ true → a ≡ true
weight-back true b le is = refl
weight-back false b le is = let one : weight b ≡ 1 = ap weight is in absurd (omega (arith, one, le))

-- where each flag is one of the other's, there are no more
flags-le : (xs ys : List Bool) → ((k : ℕ) → get_or xs k false ≡ true → get_or ys k false ≡ true) → count_by (λ b. b) xs ≤ count_by (λ b. b) ys
flags-le [] ys more = omega arith
flags-le (x ∷ xs) [] more =
    let none : x ≡ false = elim (cases_Bool x) [ inl e ↦ absurd (false≢true (more 0 e)) | inr e ↦ e ] in
    let here : weight x ≡ 0 = ap weight none in
    let rest = flags-le xs [] (λ k h. more (suc k) h) in
    let parts : count_by (λ b. b) (x ∷ xs) ≡ weight x + count_by (λ b. b) xs = sum_by-cons weight x xs in
    omega (arith, here, rest, parts)
flags-le (x ∷ xs) (y ∷ ys) more =
    let here = weight-le x y (more 0) in
    let rest = flags-le xs ys (λ k h. more (suc k) h) in
    let parts : count_by (λ b. b) (x ∷ xs) ≡ weight x + count_by (λ b. b) xs = sum_by-cons weight x xs in
    let parts' : count_by (λ b. b) (y ∷ ys) ≡ weight y + count_by (λ b. b) ys = sum_by-cons weight y ys in
    omega (arith, here, rest, parts, parts')

-- and the flags are the same where there are as many
flags_back : (xs ys : List Bool) → ((k : ℕ) → get_or xs k false ≡ true → get_or ys k false ≡ true) → count_by (λ b. b) ys ≤ count_by (λ b. b) xs → (k : ℕ) → get_or ys k false ≡ true → get_or xs k false ≡ true
flags_back [] [] more le k h = h
flags_back [] (y ∷ ys) more le zero h =
    let one : weight y ≡ 1 = ap weight h in
    let parts : count_by (λ b. b) (y ∷ ys) ≡ weight y + count_by (λ b. b) ys = sum_by-cons weight y ys in
    absurd (omega (arith, one, le, parts))
flags_back [] (y ∷ ys) more le (suc k) h =
    let parts : count_by (λ b. b) (y ∷ ys) ≡ weight y + count_by (λ b. b) ys = sum_by-cons weight y ys in
    absurd (false≢true (flags_back [] ys (λ i e. absurd (false≢true e)) (omega (arith, le, parts)) k h))
flags_back (x ∷ xs) [] more le k h = absurd (false≢true h)
flags_back (x ∷ xs) (y ∷ ys) more le zero h =
    let rest = flags-le xs ys (λ k h. more (suc k) h) in
    let parts : count_by (λ b. b) (x ∷ xs) ≡ weight x + count_by (λ b. b) xs = sum_by-cons weight x xs in
    let parts' : count_by (λ b. b) (y ∷ ys) ≡ weight y + count_by (λ b. b) ys = sum_by-cons weight y ys in
    weight-back x y (omega (arith, le, rest, parts, parts')) h
flags_back (x ∷ xs) (y ∷ ys) more le (suc k) h =
    let here = weight-le x y (more 0) in
    let parts : count_by (λ b. b) (x ∷ xs) ≡ weight x + count_by (λ b. b) xs = sum_by-cons weight x xs in
    let parts' : count_by (λ b. b) (y ∷ ys) ≡ weight y + count_by (λ b. b) ys = sum_by-cons weight y ys in
    flags_back xs ys (λ i e. more (suc i) e) (omega (arith, le, here, parts, parts')) k h

-- ---- room that was made

module _ (old mid : State) (starts : List ℕ) (room : MakesRoom old mid starts) where
  pub room_keeps : KeepsHeld old mid starts
  room_keeps = record { levels = room.levels; budget = room.budget; held = λ n held. let stays = room.stays n held in (stays, room.meaning n stays) }

  pub room_roots : SameRoots old mid
  room_roots n = ap (λ (kept : List ℕ). get_or kept n 0) room.roots

  no_more : count_of mid.table ≤ count_of old.table
  no_more = flags-le mid.table.live old.table.live (λ n live. (room.stayed n live).live)

  all_there : count_of old.table ≤ count_of mid.table → (n : ℕ) → IsEdge old n → IsEdge mid n
  all_there le = flags_back mid.table.live old.table.live (λ n live. (room.stayed n live).live) le

  -- where it is full before and after, all is held
  pub full_before : IsFull old → IsFull mid → IsFullOf old starts
  full_before full still = record { full = full; held = λ n live. room.stayed n (all_there (omega (arith, full.count, still.count, room.budget)) n live) }

  all_stays : IsFullOf old starts → count_of old.table ≤ count_of mid.table
  all_stays full = flags-le old.table.live mid.table.live (λ n live. room.stays n (full.held n live))

  -- and the other way round
  pub full_after : IsSound mid.table → IsFullOf old starts → IsFull mid
  full_after sound full = record { sound = sound; count = omega (arith, no_more, all_stays full, full.full.count, room.budget) }

  -- what stayed is held by what holds it
  pub still_held : IsFull mid → IsFullOf mid starts
  still_held full = record { full = full; held = λ n live. held_stays old mid starts n room_keeps room_roots (room.stayed n live) }

  module _ (new : State) (keeps : KeepsEdges mid new) where
    pub keeps_behind : KeepsHeld old new starts
    keeps_behind = keeps_on old mid new starts room_keeps room_roots (keeps_edges mid new starts keeps)

    pub answers_behind : KeepsAnswers mid new → KeepsAnswers old new
    answers_behind kept a has =
        let was = kept a has in
        (room.answers a was.0, record { a = behind a.a was.1.a; b = behind a.b was.1.b; c = behind a.c was.1.c; r = behind a.r was.1.r })
      where
        behind : (n : ℕ) → WasThere mid new n → WasThere old new n
        behind n was = ((room.stayed n was.0).live, was.1 ∙ room.meaning n was.0)

  -- there is no such diagram before where there is none after
  module _ (level low high : ℕ) (low_held : IsHeldBy old starts low) (high_held : IsHeldBy old starts high) where
    pub same_branch : branch level (diagram_of mid low) (diagram_of mid high) ≡ branch level (diagram_of old low) (diagram_of old high)
    same_branch =
        ap (λ d. branch level d (diagram_of mid high)) (room_keeps.held low low_held).1 ∙ ap (λ d. branch level (diagram_of old low) d) (room_keeps.held high high_held).1

    pub had_branch : HasDiagram mid (branch level (diagram_of mid low) (diagram_of mid high)) → HasDiagram old (branch level (diagram_of old low) (diagram_of old high))
    had_branch has = (has.0, (room.stayed has.0 has.1).live, sym (room.meaning has.0 has.1) ∙ (has.2 ∙ same_branch))

-- ---- reclaiming

module _ (old new : State) (more : List ℕ) (idle : old.stack ≡ []) (none : more ≡ []) (room : MakesRoom old new (old.stack ++ more)) (store : IsStore new) where
  no_start : (r : ℕ) → Contains (old.stack ++ more) r → ⊥
  no_start r there =
      let nothing : old.stack ++ more ≡ [] = ap (λ (xs : List ℕ). xs ++ more) idle ∙ none in
      let in_none : Contains [] r = subst (λ (xs : List ℕ). Contains xs r) nothing there in
      omega (arith, in_none.1)

  constant_there : (n : ℕ) → n < 2 → IsEdge new n
  constant_there n less = elim (cases_lt n 1) [
    | inl first ↦ let e : 0 ≡ n = omega arith in subst (IsEdge new) e store.sound.false_live
    | inr second ↦ let e : 1 ≡ n = omega arith in subst (IsEdge new) e store.sound.true_live
  ]

  reached_there : (n : ℕ) → IsReached old n → IsEdge new n
  reached_there n reached =
      let root : IsRoot new reached.0 = subst (λ (kept : List ℕ). 0 < get_or kept reached.0 0) (sym room.roots) reached.1 in
      let live : IsEdge old reached.0 = (room.stayed reached.0 (store.roots_live reached.0 root)).live in
      room.stays n (record { live = reached.2; needed = inr (reached.0, inl reached.1, live, reached.3) })

  pub reclaimed_live : (n : ℕ) → (IsEdge new n → (n < 2) ⊎ IsReached old n) × ((n < 2) ⊎ IsReached old n → IsEdge new n)
  reclaimed_live n = (
    (λ live.
        let held = room.stayed n live in
        elim held.needed [
          | inl fixed ↦ inl (fixed_small new.table store.sound n fixed.0 live (room.meaning n live ∙ fixed.1))
          | inr under ↦ elim under.1 [ inl root ↦ inr (under.0, root, held.live, under.3) | inr there ↦ absurd (no_start under.0 there) ]
        ]),
    (λ h. elim h [ inl less ↦ constant_there n less | inr reached ↦ reached_there n reached ]),
  )

-- ---- the same nodes

pub keeps_table : (old mid new : State) (starts : List ℕ) → KeepsHeld old mid starts → new.table ≡ mid.table → KeepsHeld old new starts
keeps_table old mid new starts keeps same = record {
  levels = ap (λ (t : Table). t.levels) same ∙ keeps.levels;
  budget = ap (λ (t : Table). t.budget) same ∙ keeps.budget;
  held = λ n held.
      let stays = keeps.held n held in
      (subst (λ (t : Table). IsLive t n) (sym same) stays.0, ap (λ (t : Table). diagram_at t n) same ∙ stays.1);
}

pub answers_table : (old mid new : State) → KeepsAnswers old mid → new.table ≡ mid.table → new.answers ≡ mid.answers → KeepsAnswers old new
answers_table old mid new kept same answers a has =
    let was = kept a (subst (λ (xs : List Answer). IsKept xs a) answers has) in
    (was.0, record { a = still a.a was.1.a; b = still a.b was.1.b; c = still a.c was.1.c; r = still a.r was.1.r })
  where
    still : (n : ℕ) → WasThere old mid n → WasThere old new n
    still n there = (there.0, ap (λ (t : Table). diagram_at t n) same ∙ there.1)

-- ---- a bit

-- a full store, without the constants as starts
module _ (s : State) (stack : List ℕ) (level low high : ℕ) (is_low : low ≡ 0) (is_high : high ≡ 1) (of_low : diagram_of s low ≡ constant false) (of_high : diagram_of s high ≡ constant true) where
  abbrev pub NodeFull : Type 0
  NodeFull = (low ≢ high) × (HasDiagram s (branch level (diagram_of s low) (diagram_of s high)) → ⊥) × IsFullOf s (stack ++ low ∷ high ∷ [])

  abbrev pub BitFull : Type 0
  BitFull = (HasDiagram s (branch level (constant false) (constant true)) → ⊥) × IsFullOf s stack

  same_bit : branch level (diagram_of s low) (diagram_of s high) ≡ branch level (constant false) (constant true)
  same_bit = ap (λ d. branch level d (diagram_of s high)) of_low ∙ ap (λ d. branch level (constant false) d) of_high

  pub bit_full : NodeFull → BitFull
  bit_full is = (
    subst (λ d. HasDiagram s d → ⊥) same_bit is.1,
    record { full = is.2.full; held = λ n live. without_constants s stack low high n false true of_low of_high (is.2.held n live) },
  )

  pub node_full : BitFull → NodeFull
  node_full is = (
    (λ e. omega (arith, e, is_low, is_high)),
    subst (λ d. HasDiagram s d → ⊥) (sym same_bit) is.0,
    record { full = is.1.full; held = λ n live. held_more s stack (low ∷ high ∷ []) n (is.1.held n live) },
  )
