-- The walk that marks what a node reaches.
use Rattle.std.proofs.Common.{◌≡◌, ◌≢◌, ◌<◌, ◌≤◌, ◌+◌, ◌-◌, ◌*◌, ℕ, Bool, true, false, not, cond, List, length, get_or, set, get_or-set_same, get_or-set_other, refl, sym, ◌∙◌, ap, subst, inl, inr, arith, rules}
use Rattle.std.specs.Prelude.{count_by}
use Rattle.std.proofs.lemmas.Bool.{cases_lt, cases_eq}
use Rattle.std.proofs.lemmas.List.Sums.{sum_by-set}
use Rattle.spec_model.specs.Diagrams.{Diagram, constant, branch, IsPartOf}
use Rattle.node_table.specs.declared.node.Node.{Node}
use Rattle.node_table.specs.Table.{Table, level_at, low_at, high_at, is_marked, IsLive, IsMarked, IsSound, diagram_at, MarksNode}
use Rattle.node_table.specs.Index.{with_columns, IsMarkable, IsMarkedFrom, HasPartsMarked, IsUnmarkedPart, IsWalk}
use Rattle.node_table.proofs.Meaning.{diagram_at-inner, marked_parts, part_itself}
use Rattle.node_table.proofs.Marking.{with_marks, live_within, marked_here, stays_marked, was_marked, sound_marked}

-- a part of a part
part_of_part : (a b d : Diagram) → IsPartOf a b → IsPartOf b d → IsPartOf a d
part_of_part a b (constant x) p q = subst (IsPartOf a) q p
part_of_part a b (branch level low high) p (inl q) = subst (IsPartOf a) q p
part_of_part a b (branch level low high) p (inr (inl q)) = inr (inl (part_of_part a b low p q))
part_of_part a b (branch level low high) p (inr (inr q)) = inr (inr (part_of_part a b high p q))

-- ---- the way

module _ (t : Table) (way : List ℕ) (n : ℕ) (markable : IsMarkable t n (length way)) where
  pub walk_begins : IsWalk t (with_marks t t.marked) (set way 0 n) n 1
  walk_begins =
      let here : get_or (set way 0 n) 0 0 ≡ n = get_or-set_same way 0 n 0 (omega (arith, markable.room)) in
      let at : (i : ℕ) → i < 1 → n ≡ get_or (set way 0 n) i 0 = λ i less. let e : i ≡ 0 = omega arith in sym (ap (λ k. get_or (set way 0 n) k 0) e ∙ here) in
      record {
        sound = markable.sound;
        kept = λ k h. h;
        only = λ k h. inl h;
        live = λ i less. subst (IsLive t) (at i less) markable.live;
        unmarked = λ i less. subst (λ k. is_marked t k ≡ false) (at i less) markable.unmarked;
        part = λ i less. subst (λ k. IsPartOf (diagram_at t k) (diagram_at t n)) (at i less) (part_itself (diagram_at t n));
        rising = λ i j less below. absurd (omega (arith, less, below));
        deep = λ i less. omega (arith, less);
        first = here;
        ended = λ e. absurd (omega (arith, e));
      }

module _ (t : Table) (m : List Bool) (way : List ℕ) (n depth at : ℕ) (sound : IsSound t) (walk : IsWalk t (with_marks t m) way n depth) (some : 0 < depth) (is_at : at ≡ get_or way (depth - 1) 0) where
  pub at_live : IsLive t at
  at_live = subst (IsLive t) (sym is_at) (walk.live (depth - 1) (omega arith))

  pub at_within : at < length t.nodes
  at_within = let within = live_within t.live at at_live in omega (arith, within, sound.flags)

  pub at_unmarked : get_or m at false ≡ false
  at_unmarked = subst (λ k. get_or m k false ≡ false) (sym is_at) (walk.unmarked (depth - 1) (omega arith))

  -- its parts have marks
  pub low_within : 2 ≤ at → low_at t at < length m
  low_within inner = let fit = sound.fit at inner at_live in let within = live_within t.live (low_at t at) fit.low_live in omega (arith, within, sound.flags, walk.sound.marks)

  pub high_within : 2 ≤ at → high_at t at < length m
  high_within inner = let fit = sound.fit at inner at_live in let within = live_within t.live (high_at t at) fit.high_live in omega (arith, within, sound.flags, walk.sound.marks)

  at_deep : depth ≤ level_at t at + 1
  at_deep =
      let deep : depth - 1 ≤ level_at t at = subst (λ k. depth - 1 ≤ level_at t k) (sym is_at) (walk.deep (depth - 1) (omega arith)) in
      omega (arith, deep)

  at_part : IsPartOf (diagram_at t at) (diagram_at t n)
  at_part = subst (λ k. IsPartOf (diagram_at t k) (diagram_at t n)) (sym is_at) (walk.part (depth - 1) (omega arith))

  -- the nodes before it are of earlier levels
  before_at : (i : ℕ) → i + 1 < depth → level_at t (get_or way i 0) < level_at t at
  before_at i less = subst (λ k. level_at t (get_or way i 0) < level_at t k) (sym is_at) (walk.rising i (depth - 1) (omega arith) (omega arith))

  -- ---- back

  module _ (parts : HasPartsMarked t.nodes m at) where
    pub walk_up : IsWalk t (with_marks t (set m at true)) way n (depth - 1)
    walk_up = record {
      sound = sound_marked t m at walk.sound at_live parts;
      kept = λ k h. stays_marked t m at walk.sound at_live k (walk.kept k h);
      only = λ k h. elim (cases_eq k at) [
        | inl e ↦ inr (subst (λ i. IsPartOf (diagram_at t i) (diagram_at t n)) (sym e) at_part)
        | inr ne ↦ walk.only k (was_marked t m at walk.sound at_live k ne h)
      ];
      live = λ i less. walk.live i (omega (arith, less));
      unmarked = λ i less.
          let before : level_at t (get_or way i 0) < level_at t at = before_at i (omega (arith, less)) in
          let ne : get_or way i 0 ≢ at = λ e. omega (arith, before, ap (level_at t) e) in
          get_or-set_other m at (get_or way i 0) true false ne ∙ walk.unmarked i (omega (arith, less));
      part = λ i less. walk.part i (omega (arith, less));
      rising = λ i j less below. walk.rising i j less (omega (arith, below));
      deep = λ i less. walk.deep i (omega (arith, less));
      first = walk.first;
      ended = λ e.
          let last : depth - 1 ≡ 0 = e in
          let is_n : at ≡ n = is_at ∙ (ap (λ k. get_or way k 0) last ∙ walk.first) in
          subst (λ k. get_or (set m at true) k false ≡ true) is_n (marked_here t m at walk.sound at_live);
    }

  -- ---- down

  module _ (part : ℕ) (down : IsUnmarkedPart t.nodes m at part) (room : t.levels < length way) where
    part_live : IsLive t part
    part_live =
        let fit = sound.fit at down.inner at_live in
        elim down.one [
          | inl e ↦ subst (IsLive t) (sym e) fit.low_live
          | inr e ↦ subst (IsLive t) (sym e) fit.high_live
        ]

    part_later : level_at t at < level_at t part
    part_later =
        let fit = sound.fit at down.inner at_live in
        elim down.one [
          | inl e ↦ subst (λ k. level_at t at < level_at t k) (sym e) fit.low_later
          | inr e ↦ subst (λ k. level_at t at < level_at t k) (sym e) fit.high_later
        ]

    part_reached : IsPartOf (diagram_at t part) (diagram_at t n)
    part_reached =
        let whole : diagram_at t at ≡ branch (level_at t at) (diagram_at t (low_at t at)) (diagram_at t (high_at t at)) = diagram_at-inner t sound at down.inner at_live in
        let of_at : IsPartOf (diagram_at t part) (diagram_at t at) = subst (IsPartOf (diagram_at t part)) (sym whole) (elim down.one [
          | inl e ↦ inr (inl (subst (λ k. IsPartOf (diagram_at t part) (diagram_at t k)) e (part_itself (diagram_at t part))))
          | inr e ↦ inr (inr (subst (λ k. IsPartOf (diagram_at t part) (diagram_at t k)) e (part_itself (diagram_at t part))))
        ]) in
        part_of_part (diagram_at t part) (diagram_at t at) (diagram_at t n) of_at at_part

    -- there is room for one more
    pub room_below : depth < length way
    room_below = let fit = sound.fit at down.inner at_live in omega (arith, fit.below, at_deep, room)

    here : get_or (set way depth part) depth 0 ≡ part
    here = get_or-set_same way depth part 0 room_below

    there : (i : ℕ) → i < depth → get_or way i 0 ≡ get_or (set way depth part) i 0
    there i less = sym (get_or-set_other way depth i part 0 (λ e. omega (arith, less, e)))

    -- what holds of the way and of the part holds of the longer way
    each : (P : ℕ → ℕ → Type 0) → ((i : ℕ) → i < depth → P i (get_or way i 0)) → P depth part → (i : ℕ) → i < depth + 1 → P i (get_or (set way depth part) i 0)
    each P old new i less =
        elim (cases_lt i depth) [
          | inl before ↦ subst (P i) (there i before) (old i before)
          | inr past ↦ let e : depth ≡ i = omega (arith, less, past) in subst (λ k. P k (get_or (set way depth part) k 0)) e (subst (P depth) (sym here) new)
        ]

    -- the part is later than all before it
    later : (i : ℕ) → i < depth → level_at t (get_or way i 0) < level_at t part
    later i less =
        elim (cases_lt (i + 1) depth) [
          | inl before ↦ omega (arith, before_at i before, part_later)
          | inr last ↦
              let e : depth - 1 ≡ i = omega (arith, less, last) in
              subst (λ k. level_at t k < level_at t part) (is_at ∙ ap (λ k. get_or way k 0) e) part_later
        ]

    pub walk_down : IsWalk t (with_marks t m) (set way depth part) n (depth + 1)
    walk_down = record {
      sound = walk.sound;
      kept = walk.kept;
      only = walk.only;
      live = each (λ i k. IsLive t k) walk.live part_live;
      unmarked = each (λ i k. get_or m k false ≡ false) walk.unmarked down.unmarked;
      part = each (λ i k. IsPartOf (diagram_at t k) (diagram_at t n)) walk.part part_reached;
      rising = λ i j less below. elim (cases_lt j depth) [
        | inl before ↦ subst (λ k. level_at t k < level_at t (get_or (set way depth part) j 0)) (there i (omega (arith, less, before))) (subst (λ k. level_at t (get_or way i 0) < level_at t k) (there j before) (walk.rising i j less before))
        | inr past ↦
            let e : depth ≡ j = omega (arith, below, past) in
            let before : i < depth = omega (arith, less, e) in
            subst (λ k. level_at t (get_or (set way depth part) i 0) < level_at t (get_or (set way depth part) k 0)) e
            (subst (λ k. level_at t (get_or (set way depth part) i 0) < level_at t k) (sym here) (subst (λ k. level_at t k < level_at t part) (there i before) (later i before)))
      ];
      deep = each (λ i k. i ≤ level_at t k) walk.deep (omega (arith, at_deep, part_later));
      first = get_or-set_other way depth 0 part 0 (λ e. omega (arith, e, some)) ∙ walk.first;
      ended = λ e. absurd (omega (arith, e));
    }

-- ---- the end

pub walk_ends : (t : Table) (m : List Bool) (way : List ℕ) (n depth places : ℕ) → depth ≤ 0 → IsMarkable t n places → IsWalk t (with_marks t m) way n depth → IsMarkedFrom t (with_marks t m) n
walk_ends t m way n depth places none markable walk = record {
  marks = record {
    same = refl;
    kept = walk.kept;
    reached = λ k live part. marked_parts (with_marks t m) walk.sound n k markable.live live (walk.ended (omega (arith, none))) part;
    only = walk.only;
  };
  sound = walk.sound;
}

-- a node that is marked already
pub marks_again : (t : Table) (n : ℕ) → IsSound t → IsLive t n → IsMarked t n → MarksNode t t n
marks_again t n sound live marked = record {
  same = refl;
  kept = λ k h. h;
  reached = λ k live' part. marked_parts t sound n k live live' marked part;
  only = λ k h. inl h;
}

-- ---- the columns, by themselves

pub markable_in : (t : Table) (nodes : List Node) (marked : List Bool) (n places : ℕ) → nodes ≡ t.nodes → marked ≡ t.marked → IsMarkable t n places → IsMarkable (with_columns t nodes marked) n places
markable_in t nodes marked n places e f h = subst (λ ns. IsMarkable (with_columns t ns marked) n places) (sym e) (subst (λ m. IsMarkable (with_columns t t.nodes m) n places) (sym f) h)

pub marked_in : (t : Table) (nodes : List Node) (marked marked' : List Bool) (n : ℕ) → nodes ≡ t.nodes → marked ≡ t.marked → IsMarkedFrom (with_columns t nodes marked) (with_columns t nodes marked') n → IsMarkedFrom t (with_marks t marked') n
marked_in t nodes marked marked' n e f h =
    subst (λ ns. IsMarkedFrom (with_columns t ns t.marked) (with_columns t ns marked') n) e (subst (λ m. IsMarkedFrom (with_columns t nodes m) (with_columns t nodes marked') n) f h)

-- ---- the measure

abbrev weight : Bool → ℕ
weight b = cond (not b) 1 0

-- one node less is unmarked
pub fewer_unmarked : (m : List Bool) (at : ℕ) → at < length m → get_or m at false ≡ false → count_by not (set m at true) + 1 ≡ count_by not m
fewer_unmarked m at inside unmarked =
    let moved : count_by not (set m at true) + weight (get_or m at false) ≡ count_by not m + weight true = sum_by-set weight m at true false inside in
    let one : weight (get_or m at false) ≡ 1 = ap weight unmarked in
    omega (arith, moved, one)

pub step_up : (u v width depth : ℕ) → v + 1 ≡ u → 0 < depth → depth ≤ width → v * (width + 1) - (depth - 1) < u * (width + 1) - depth
step_up u v width depth fewer some within =
    let parts : (v + 1) * (width + 1) ≡ v * (width + 1) + (width + 1) = search (rules, arith) in
    let whole : u * (width + 1) ≡ (v + 1) * (width + 1) = ap (λ k. k * (width + 1)) (sym fewer) in
    omega (arith, parts, whole)

pub step_down : (u v width depth : ℕ) → v + 1 ≡ u → depth < width → u * (width + 1) - (depth + 1) < u * (width + 1) - depth
step_down u v width depth fewer within =
    let parts : (v + 1) * (width + 1) ≡ v * (width + 1) + (width + 1) = search (rules, arith) in
    let whole : u * (width + 1) ≡ (v + 1) * (width + 1) = ap (λ k. k * (width + 1)) (sym fewer) in
    omega (arith, parts, whole)
