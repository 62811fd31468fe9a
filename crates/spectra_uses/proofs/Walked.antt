-- Walks along links: what they come to, and what is left.
use Rattle.std.proofs.Common.{◌≡◌, ℕ, zero, suc, ◌+◌, ◌<◌, ◌≤◌, Bool, true, List, [], ◌∷◌, ◌++◌, length, Some, get_or, slice_get, slice_set, refl, sym, ap, subst, ◌∙◌, inl, inr, ◌⊎◌, arith}
use Rattle.std.proofs.lemmas.Bool.{cases_lt}
use Rattle.std.proofs.lemmas.Option.{slice_get_within}
use Rattle.std.proofs.lemmas.List.{length_push}
use Rattle.spectra_uses.specs.Searching.{next_of, IsOpen, IsKnown, AreKnown}
use Rattle.spectra_uses.specs.Walking.{IsAmong, Enters, IsWalk, Walks, Marks}
use Rattle.spectra_uses.proofs.Reaching.{nowhere, at_place, push-before, push-last, push-cases, first_step, leads_on}
use Rattle.spectra_uses.proofs.Marked.{same_or_not, set-here, set-other, length-one_set, set-there, set-open, marked-set}

pub among_or_not : (list : List ℕ) (v : ℕ) → IsAmong list v ⊎ (IsAmong list v → ⊥)
among_or_not [] v = inr (λ among. nowhere among.0 v among.1)
among_or_not (x ∷ list) v = by (same_or_not x v) (among_or_not list v)
  where
    neither : (x ≡ v → ⊥) → (IsAmong list v → ⊥) → (i : ℕ) → slice_get (x ∷ list) i ≡ Some v → ⊥
    neither other none zero at = other (cc)
    neither other none (suc i) at = none (i, at)

    by : (x ≡ v) ⊎ (x ≡ v → ⊥) → IsAmong list v ⊎ (IsAmong list v → ⊥) → IsAmong (x ∷ list) v ⊎ (IsAmong (x ∷ list) v → ⊥)
    by (inl same) rest = inl (0, ap Some same)
    by (inr other) (inl later) = inl (suc later.0, later.1)
    by (inr other) (inr none) = inr (λ among. neither other none among.0 among.1)

-- ---- one that is marked, and several

pub enters_not : (marks : List Bool) (reached list : List ℕ) → Enters marks marks reached reached list
enters_not marks reached list =
    record {
      size = refl;
      counted = refl;
      longer = omega arith;
      same = λ i v at. at;
      each = λ v among. inl among;
      was = λ v free. free;
      listed = λ v free. inl free;
    }

pub enters_one : (marks : List Bool) (reached : List ℕ) (v : ℕ) → IsOpen marks v → Enters marks (slice_set marks v true) reached (reached ++ v ∷ []) (v ∷ [])
enters_one marks reached v new =
    record {
      size = length-one_set marks v true;
      counted = let n = marked-set marks v new in let m = length_push reached v in omega arith;
      longer = let m = length_push reached v in omega arith;
      same = λ i w at. push-before reached v i w at;
      each = λ w among. elim (push-cases reached v among.0 w among.1) [
        | inl before ↦ inl (among.0, before)
        | inr last ↦ inr (subst (λ u. IsAmong (v ∷ []) u × IsOpen marks u × IsKnown (slice_set marks v true) u) last.1 ((0, refl), new, set-there marks v))
      ];
      was = λ w free. (set-open marks v w free).1;
      listed = λ w free. elim (same_or_not w v) [
        | inl same ↦ inr (length reached, push-last reached v ∙ ap Some (sym same))
        | inr other ↦ inl (set-other marks v w true other ∙ free)
      ];
    }

module _ (a b c : List Bool) (x y z list part : List ℕ) where
  pub enters_on : ((v : ℕ) → IsAmong part v → IsAmong list v) → Enters a b x y list → Enters b c y z part → Enters a c x z list
  enters_on some first next =
      record {
        size = next.size ∙ first.size;
        counted = let p = first.counted in let q = next.counted in omega arith;
        longer = let p = first.longer in let q = next.longer in omega arith;
        same = λ i v at. next.same i v (first.same i v at);
        each = λ v among. elim (next.each v among) [
          | inl before ↦ elim (first.each v before) [
            | inl old ↦ inl old
            | inr new ↦ inr (new.0, new.1, λ free. new.2 (next.was v free))
          ]
          | inr new ↦ inr (some v new.0, first.was v new.1, new.2)
        ];
        was = λ v free. first.was v (next.was v free);
        listed = λ v free. elim (first.listed v free) [
          | inl still ↦ next.listed v still
          | inr there ↦ inr (there.0, next.same there.0 v there.1)
        ];
      }

-- one alone is among all
pub one_among : (list : List ℕ) (k w : ℕ) → slice_get list k ≡ Some w → (v : ℕ) → IsAmong (w ∷ []) v → IsAmong list v
one_among list k w at v among = only among.0 among.1
  where
    only : (i : ℕ) → slice_get (w ∷ []) i ≡ Some v → IsAmong list v
    only zero here = (k, at ∙ here)
    only (suc i) here = absurd (nowhere i v here)

-- those of a list up to a place are known, and the next one
pub one_more_known : (before after : List Bool) (list : List ℕ) (k v : ℕ) → slice_get list k ≡ Some v → ((w : ℕ) → IsOpen after w → IsOpen before w) → IsKnown after v
    → ((i w : ℕ) → i < k → slice_get list i ≡ Some w → IsKnown before w)
    → (i w : ℕ) → i < k + 1 → slice_get list i ≡ Some w → IsKnown after w
one_more_known before after list k v at was here known i w below there = elim (cases_lt i k) [
  | inl earlier ↦ (λ free. known i w earlier there (was w free))
  | inr behind ↦ last (omega arith)
]
  where
    last : i ≡ k → IsKnown after w
    last same = let e : Some v ≡ Some w = sym at ∙ ap (slice_get list) (sym same) ∙ there in let one : v ≡ w = cc in subst (IsKnown after) one here

-- ---- walks

pub walk_begins : (links : List (List ℕ)) (from : ℕ) (before after : List Bool) (none reached : List ℕ) → none ≡ [] → Enters before after none reached (next_of links from)
    → AreKnown after (next_of links from) → IsWalk links from before after reached 0
walk_begins links from before after none reached empty enters known =
    record {
      size = enters.size;
      counted = let n = ap length empty in let c = enters.counted in omega arith;
      within = omega arith;
      found = λ v among. elim (enters.each v among) [
        | inl earlier ↦ absurd (nowhere earlier.0 v (sym (ap (λ xs. slice_get xs earlier.0) empty) ∙ earlier.1))
        | inr new ↦ let place = new.0 in ((1, first_step links from v place.0 place.1), new.1, new.2)
      ];
      was = enters.was;
      listed = enters.listed;
      first = known;
      followed = λ i v below at. absurd (omega arith);
    }

module _ (links : List (List ℕ)) (from : ℕ) (before mid after : List Bool) (reached new : List ℕ) (head p : ℕ) where
  pub walk_on : IsWalk links from before mid reached head → slice_get reached head ≡ Some p → Enters mid after reached new (next_of links p) → AreKnown after (next_of links p)
      → IsWalk links from before after new (head + 1)
  walk_on walk at enters known =
      record {
        size = enters.size ∙ walk.size;
        counted = let c = walk.counted in let d = enters.counted in omega arith;
        within = let below = slice_get_within reached head p at in let longer = enters.longer in omega arith;
        found = λ v among. elim (enters.each v among) [
          | inl earlier ↦ let f = walk.found v earlier in (f.0, f.1, λ free. f.2 (enters.was v free))
          | inr one ↦ let place = one.0 in let there = walk.found p (head, at) in (leads_on links from p v place.0 there.0 place.1, walk.was v one.1, one.2)
        ];
        was = λ v free. walk.was v (enters.was v free);
        listed = λ v free. elim (walk.listed v free) [
          | inl still ↦ enters.listed v still
          | inr there ↦ inr (there.0, enters.same there.0 v there.1)
        ];
        first = λ i v there free. walk.first i v there (enters.was v free);
        followed = λ i v below there. elim (cases_lt i head) [
          | inl earlier ↦ (λ j w link free. walk.followed i v earlier (was_there i v (let n = walk.within in omega arith) there) j w link (enters.was w free))
          | inr behind ↦ last i v (omega arith) there
        ];
      }
    where
      was_there : (i v : ℕ) → i < length reached → slice_get new i ≡ Some v → slice_get reached i ≡ Some v
      was_there i v inside there = at_place reached i inside ∙ sym (enters.same i (get_or reached i 0) (at_place reached i inside)) ∙ there

      last : (i v : ℕ) → i ≡ head → slice_get new i ≡ Some v → AreKnown after (next_of links v)
      last i v here there =
          let e : Some p ≡ Some v = sym (enters.same head p at) ∙ ap (slice_get new) (sym here) ∙ there in
          let same : p ≡ v = cc in
          subst (λ k. AreKnown after (next_of links k)) same known

pub walk_done : (links : List (List ℕ)) (from : ℕ) (before after : List Bool) (reached : List ℕ) (head : ℕ) → IsWalk links from before after reached head → length reached ≤ head
    → Walks links from before after reached
walk_done links from before after reached head walk all =
    record {
      size = walk.size;
      found = λ v among. let f = walk.found v among in (f.0, f.1);
      was = walk.was;
      listed = walk.listed;
      first = walk.first;
      followed = λ v among. walk.followed among.0 v (let within = slice_get_within reached among.0 v among.1 in omega arith) among.1;
    }

-- ---- marks that are set

-- those of the first numbers of a list are set
pub record MarksFirst (old new : List Bool) (list : List ℕ) (mark : Bool) (count : ℕ) : Type 0 where
  pub size : length new ≡ length old
  pub inside : (i v : ℕ) → i < count → slice_get list i ≡ Some v → v < length old → slice_get new v ≡ Some mark
  pub outside : (v : ℕ) → ((i : ℕ) → i < count → slice_get list i ≡ Some v → ⊥) → slice_get new v ≡ slice_get old v

pub marks_none : (old : List Bool) (list : List ℕ) (mark : Bool) → MarksFirst old old list mark 0
marks_none old list mark = record { size = refl; inside = λ i v below at within. absurd (omega arith); outside = λ v none. refl }

module _ (old mid : List Bool) (list : List ℕ) (mark : Bool) (k w : ℕ) (at : slice_get list k ≡ Some w) (first : MarksFirst old mid list mark k) where
  pub marks_on : MarksFirst old (slice_set mid w mark) list mark (k + 1)
  marks_on =
      record {
        size = length-one_set mid w mark ∙ first.size;
        inside = λ i v below there within. elim (same_or_not v w) [
          | inl same ↦ subst (λ u. slice_get (slice_set mid w mark) u ≡ Some mark) (sym same) (set-here mid w mark (let n = first.size in omega arith))
          | inr other ↦ set-other mid w v mark other ∙ first.inside i v (earlier i v below there other) there within
        ];
        outside = λ v none.
            set-other mid w v mark (λ same. none k (omega arith) (at ∙ ap Some (sym same)))
            ∙ first.outside v (λ i below. none i (omega arith));
      }
    where
      earlier : (i v : ℕ) → i < k + 1 → slice_get list i ≡ Some v → (v ≡ w → ⊥) → i < k
      earlier i v below there other = elim (cases_lt i k) [
        | inl before ↦ before
        | inr behind ↦ absurd (same (omega arith))
      ]
        where
          same : i ≡ k → ⊥
          same here = let e : Some v ≡ Some w = sym there ∙ ap (slice_get list) here ∙ at in other (cc)

pub marks_all : (old new : List Bool) (list : List ℕ) (mark : Bool) (count : ℕ) → MarksFirst old new list mark count → length list ≤ count → Marks old new list mark
marks_all old new list mark count first all =
    record {
      size = first.size;
      inside = λ v among within. first.inside among.0 v (let here = slice_get_within list among.0 v among.1 in omega arith) among.1 within;
      outside = λ v none. first.outside v (λ i below at. none (i, at));
    }
