-- What a sweep leaves.
use Rattle.std.proofs.Common.{◌≡◌, ◌⊎◌, ℕ, suc, ◌+◌, ◌<◌, ◌≤◌, ◌||◌, Bool, true, false, cond, List, [], ◌∷◌, length, get_or, refl, sym, ◌∙◌, ap, subst, inl, inr, arith}
use Rattle.std.specs.Prelude.{nat_lt, count_by}
use Rattle.std.proofs.lemmas.Bool.{cases_lt, cases_Bool, false≢true, lt-ltb, ltb-true, or_cases, or_left, or_right}
use Rattle.std.proofs.lemmas.List.Sums.{sum_by-cons}
use Rattle.node_table.specs.Table.{Table, low_at, high_at, IsLive, IsMarked, IsSound, count_of, Sweeps}
use Rattle.node_table.specs.Index.{IsKept, IsIndexOf, IsFlagged, IsApart, used}
use Rattle.node_table.proofs.Meaning.{diagram_stays}

abbrev weight : Bool → ℕ
weight b = cond b 1 0

weight-le : (a b : Bool) → (a ≡ true → b ≡ true) → weight a ≤ weight b
weight-le true b h = let e : weight b ≡ 1 = ap weight (h refl) in omega (arith, e)
weight-le false b h = omega arith

-- where each flag is one of the other's, there are no more
count_by-le : (xs ys : List Bool) → ((k : ℕ) → get_or xs k false ≡ true → get_or ys k false ≡ true) → count_by (λ b. b) xs ≤ count_by (λ b. b) ys
count_by-le [] ys more = omega arith
count_by-le (x ∷ xs) [] more =
    let none : x ≡ false = elim (cases_Bool x) [ inl e ↦ absurd (false≢true (more 0 e)) | inr e ↦ e ] in
    let here : weight x ≡ 0 = ap weight none in
    let rest = count_by-le xs [] (λ k h. more (suc k) h) in
    let parts : count_by (λ b. b) (x ∷ xs) ≡ weight x + count_by (λ b. b) xs = sum_by-cons weight x xs in
    omega (arith, here, rest, parts)
count_by-le (x ∷ xs) (y ∷ ys) more =
    let here = weight-le x y (more 0) in
    let rest = count_by-le xs ys (λ k h. more (suc k) h) in
    let parts : count_by (λ b. b) (x ∷ xs) ≡ weight x + count_by (λ b. b) xs = sum_by-cons weight x xs in
    let parts' : count_by (λ b. b) (y ∷ ys) ≡ weight y + count_by (λ b. b) ys = sum_by-cons weight y ys in
    omega (arith, here, rest, parts, parts')

module _ (t : Table) (slots : List ℕ) (count free : ℕ) (kept : IsKept t slots count free) (live marked : List Bool)
    (stays : (n : ℕ) → get_or live n false ≡ (nat_lt n 2 || get_or t.marked n false)) (unmarked : (n : ℕ) → get_or marked n false ≡ false)
    (flags : length live ≡ length t.live) (marks : length marked ≡ length t.live) where
  abbrev pub swept : Table
  swept = record t { live = live; marked = marked }

  was_marked : (n : ℕ) → get_or live n false ≡ true → (n < 2) ⊎ IsMarked t n
  was_marked n h = elim (or_cases (nat_lt n 2) (get_or t.marked n false) (sym (stays n) ∙ h)) [ inl less ↦ inl (ltb-true n 2 less) | inr was ↦ inr was ]

  marked_stays : (n : ℕ) → IsMarked t n → get_or live n false ≡ true
  marked_stays n h = stays n ∙ or_right (nat_lt n 2) (get_or t.marked n false) h

  constant_stays : (n : ℕ) → n < 2 → get_or live n false ≡ true
  constant_stays n less = stays n ∙ or_left (nat_lt n 2) (get_or t.marked n false) (lt-ltb n 2 less)

  inner_marked : (n : ℕ) → 2 ≤ n → get_or live n false ≡ true → IsMarked t n
  inner_marked n inner h = elim (was_marked n h) [ inl less ↦ absurd (omega (arith, inner, less)) | inr was ↦ was ]

  was_live : (n : ℕ) → get_or live n false ≡ true → IsLive t n
  was_live n h = elim (was_marked n h) [
    | inl less ↦ elim (cases_lt n 1) [
      | inl none ↦ let e : 0 ≡ n = omega arith in subst (IsLive t) e kept.sound.false_live
      | inr some ↦ let e : 1 ≡ n = omega arith in subst (IsLive t) e kept.sound.true_live
    ]
    | inr was ↦ kept.sound.marked_live n was
  ]

  pub swept_flagged : IsFlagged t.nodes live
  swept_flagged = record {
    same_length = flags ∙ kept.sound.flags;
    constants = kept.sound.constants;
    false_live = constant_stays 0 (omega arith);
    true_live = constant_stays 1 (omega arith);
  }

  pub swept_apart : IsApart t.nodes live
  swept_apart n m inner inner' h h' e = kept.sound.unlike n m inner inner' (was_live n h) (was_live m h') e

  fewer : count_by (λ b. b) live ≤ count_of t
  fewer = count_by-le live t.live was_live

  pub swept_room : count_by (λ b. b) live ≤ length slots
  swept_room = omega (arith, fewer, kept.counted, kept.room)

  pub swept_sound : IsSound swept
  swept_sound = record {
    constants = kept.sound.constants;
    flags = flags ∙ kept.sound.flags;
    marks = marks ∙ kept.sound.flags;
    within = omega (arith, fewer, kept.sound.within);
    false_live = constant_stays 0 (omega arith);
    true_live = constant_stays 1 (omega arith);
    false_last = kept.sound.false_last;
    true_last = kept.sound.true_last;
    fit = λ n inner h. let fit = kept.sound.fit n inner (was_live n h) in record {
      below = fit.below;
      unlike = fit.unlike;
      low_live = marked_stays (low_at t n) (kept.sound.low_marked n inner (inner_marked n inner h));
      high_live = marked_stays (high_at t n) (kept.sound.high_marked n inner (inner_marked n inner h));
      low_later = fit.low_later;
      high_later = fit.high_later;
    };
    unlike = swept_apart;
    marked_live = λ n h. absurd (false≢true (sym (unmarked n) ∙ h));
    low_marked = λ n inner h. absurd (false≢true (sym (unmarked n) ∙ h));
    high_marked = λ n inner h. absurd (false≢true (sym (unmarked n) ∙ h));
  }

  pub swept_kept : (slots' : List ℕ) (count' : ℕ) → count' ≡ count_by (λ b. b) live → IsIndexOf slots' t.nodes live → used slots' + 2 ≡ count_by (λ b. b) live → length slots' ≡ length slots → IsKept swept slots' count' 2
  swept_kept slots' count' counted index names size = record {
    sound = swept_sound;
    counted = counted;
    small = kept.small;
    index = index;
    names = omega (arith, names, counted);
    room = omega (arith, swept_room, counted, size);
    taken = λ n less. constant_stays n less;
    free_within = kept.sound.constants;
  }

  pub swept_sweeps : Sweeps t swept
  swept_sweeps = record {
    bounds = record { levels = refl; budget = refl };
    nodes = refl;
    live = stays;
    marked = unmarked;
    meaning = λ n h. diagram_stays t swept (λ k. get_or live k false ≡ true) (λ k here. refl)
        (λ k here inner. (marked_stays (low_at t k) (kept.sound.low_marked k inner (inner_marked k inner here)), marked_stays (high_at t k) (kept.sound.high_marked k inner (inner_marked k inner here)))) refl n h;
  }
