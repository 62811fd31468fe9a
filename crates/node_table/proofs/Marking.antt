-- What marking a node leaves.
use Rattle.std.proofs.Common.{◌≡◌, ◌≢◌, ℕ, ◌<◌, ◌≤◌, Bool, true, false, cond, Some, None, List, length, get_or, set, get_or-set_same, get_or-set_other, length-set, refl, sym, ◌∙◌, ap, subst, inl, inr, arith}
use Rattle.std.proofs.lemmas.Bool.{cases_lt, cases_eq, false≢true, lt-ltb, le-ltb}
use Rattle.std.proofs.lemmas.List.{get_or_past}
use Rattle.node_table.specs.Table.{Table, level_at, low_at, high_at, parts_of, IsLive, IsMarked, IsSound, MarksNode}
use Rattle.node_table.specs.Index.{IsKept}
use Rattle.node_table.proofs.Meaning.{marked_parts}

abbrev pub with_marks : Table → List Bool → Table
with_marks t marked = record t { marked = marked }

pub live_within : (live : List Bool) (n : ℕ) → get_or live n false ≡ true → n < length live
live_within live n e = elim (cases_lt n (length live)) [ inl less ↦ less | inr past ↦ absurd (false≢true (sym (get_or_past live n false past) ∙ e)) ]

-- a node that is marked already
pub marks_again : (t : Table) (n : ℕ) → IsSound t → IsLive t n → IsMarked t n → MarksNode t t n
marks_again t n sound live marked = record {
  same = refl;
  kept = λ k h. h;
  reached = λ k live' part. marked_parts t sound n k live live' marked part;
  only = λ k h. inl h;
}

module _ (t : Table) (m : List Bool) (n : ℕ) (sound : IsSound (with_marks t m)) (live : IsLive t n) where
  within : n < length m
  within = let e = live_within t.live n live in omega (arith, e, sound.flags, sound.marks)

  pub marked_here : get_or (set m n true) n false ≡ true
  marked_here = get_or-set_same m n true false within

  pub stays_marked : (k : ℕ) → get_or m k false ≡ true → get_or (set m n true) k false ≡ true
  stays_marked k h = elim (cases_eq k n) [ inl e ↦ ap (λ i. get_or (set m n true) i false) e ∙ marked_here | inr ne ↦ get_or-set_other m n k true false ne ∙ h ]

  pub was_marked : (k : ℕ) → k ≢ n → get_or (set m n true) k false ≡ true → get_or m k false ≡ true
  was_marked k ne h = sym (get_or-set_other m n k true false ne) ∙ h

  -- with its parts marked, the table stays sound
  pub sound_marked : (2 ≤ n → IsMarked (with_marks t m) (low_at t n) × IsMarked (with_marks t m) (high_at t n)) → IsSound (with_marks t (set m n true))
  sound_marked parts = record {
    constants = sound.constants;
    flags = sound.flags;
    marks = length-set m n true ∙ sound.marks;
    within = sound.within;
    false_live = sound.false_live;
    true_live = sound.true_live;
    false_last = sound.false_last;
    true_last = sound.true_last;
    fit = λ k inner h. let fit = sound.fit k inner h in record { below = fit.below; unlike = fit.unlike; low_live = fit.low_live; high_live = fit.high_live; low_later = fit.low_later; high_later = fit.high_later };
    unlike = sound.unlike;
    marked_live = λ k h. elim (cases_eq k n) [ inl e ↦ subst (IsLive t) (sym e) live | inr ne ↦ sound.marked_live k (was_marked k ne h) ];
    low_marked = λ k inner h. elim (cases_eq k n) [
      | inl e ↦ subst (λ i. get_or (set m n true) (low_at t i) false ≡ true) (sym e) (stays_marked (low_at t n) (parts (subst (λ i. 2 ≤ i) e inner)).0)
      | inr ne ↦ stays_marked (low_at t k) (sound.low_marked k inner (was_marked k ne h))
    ];
    high_marked = λ k inner h. elim (cases_eq k n) [
      | inl e ↦ subst (λ i. get_or (set m n true) (high_at t i) false ≡ true) (sym e) (stays_marked (high_at t n) (parts (subst (λ i. 2 ≤ i) e inner)).1)
      | inr ne ↦ stays_marked (high_at t k) (sound.high_marked k inner (was_marked k ne h))
    ];
  }

-- where other marks leave the table sound, the columns and the index fit as before
pub kept_marked : (t : Table) (marked : List Bool) (slots : List ℕ) (count free : ℕ) → IsKept t slots count free → IsSound (with_marks t marked) → IsKept (with_marks t marked) slots count free
kept_marked t marked slots count free kept sound = record {
  sound = sound;
  counted = kept.counted;
  small = kept.small;
  index = kept.index;
  names = kept.names;
  room = kept.room;
  taken = kept.taken;
  free_within = kept.free_within;
}

triple_of : (p q : ℕ × ℕ × ℕ) → Some p ≡ Some q → p ≡ q
triple_of p q e = cc

-- what `parts_of` gives
pub parts_of-inner : (t : Table) (n level low high : ℕ) → parts_of t n ≡ Some (level, low, high) → (2 ≤ n) × (low ≡ low_at t n) × (high ≡ high_at t n)
parts_of-inner t n level low high e =
    elim (cases_lt n 2) [
      | inl less ↦ let none : parts_of t n ≡ None = ap (λ b. cond b None (Some (level_at t n, low_at t n, high_at t n))) (lt-ltb n 2 less) in let h : Some (level, low, high) ≡ None = sym e ∙ none in cc
      | inr inner ↦ let some : parts_of t n ≡ Some (level_at t n, low_at t n, high_at t n) = ap (λ b. cond b None (Some (level_at t n, low_at t n, high_at t n))) (le-ltb n 2 inner) in
          let triples : (level, low, high) ≡ (level_at t n, low_at t n, high_at t n) = triple_of _ _ (sym e ∙ some) in
          (inner, ap (λ (p : ℕ × ℕ × ℕ). p.1) triples, ap (λ (p : ℕ × ℕ × ℕ). p.2) triples)
    ]

pub parts_of-level : (t : Table) (n level low high : ℕ) → parts_of t n ≡ Some (level, low, high) → level ≡ level_at t n
parts_of-level t n level low high e =
    let inner : 2 ≤ n = (parts_of-inner t n level low high e).0 in
    let some : parts_of t n ≡ Some (level_at t n, low_at t n, high_at t n) = ap (λ b. cond b None (Some (level_at t n, low_at t n, high_at t n))) (le-ltb n 2 inner) in
    ap (λ (p : ℕ × ℕ × ℕ). p.0) (triple_of _ _ (sym e ∙ some))

pub parts_of-constant : (t : Table) (n : ℕ) → parts_of t n ≡ None → n < 2
parts_of-constant t n e =
    elim (cases_lt n 2) [
      | inl less ↦ less
      | inr inner ↦ let some : parts_of t n ≡ Some (level_at t n, low_at t n, high_at t n) = ap (λ b. cond b None (Some (level_at t n, low_at t n, high_at t n))) (le-ltb n 2 inner) in let h : Some (level_at t n, low_at t n, high_at t n) ≡ None = sym some ∙ e in cc
    ]
