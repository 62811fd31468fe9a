-- What is used at all is used in as many steps as there are definitions: a search finds it that goes on until nothing is new.
use Rattle.std.proofs.Common.{◌≡◌, ℕ, zero, suc, ◌+◌, ◌<◌, ◌≤◌, Bool, true, false, List, [], ◌∷◌, ◌++◌, length, Option, Some, None, unwrap_or, slice_get, slice_set, replicate, refl, sym, ap, subst, ◌∙◌, inl, inr, ◌⊎◌, arith}
use Rattle.std.proofs.lemmas.Bool.{false≢true}
use Rattle.std.proofs.lemmas.Option.{slice_get_within, slice_get_past}
use Rattle.std.proofs.lemmas.List.{length_push}
use Rattle.spectra_uses.specs.Cycles.{reaches}
use Rattle.spectra_uses.specs.Searching.{next_of, IsKnown, AreKnown, marked}
use Rattle.spectra_uses.proofs.Reaching.{nowhere, push-before, push-last, push-cases, first_step, one_step, in_more_steps, never_reached}
use Rattle.spectra_uses.proofs.Marked.{length-one_set, marked-most, marked-set, set-marked, past-from, no_mark, length-none, marked-none}

-- the uses of all definitions, the definition that is looked from, those that were reached, and a mark for each of these
record Searching : Type 0 where
  uses : List (List ℕ)
  from : ℕ
  reached : List ℕ
  marks : List Bool

-- the marks are of those that were reached, and each of these is used in as many steps as were reached up to it
record IsSearch (s : Searching) : Type 0 where
  size : length s.marks ≡ length s.uses
  counted : marked s.marks ≡ length s.reached
  sound : (i v : ℕ) → slice_get s.reached i ≡ Some v → reaches s.uses (suc i) s.from v ≡ true
  listed : (v : ℕ) → slice_get s.marks v ≡ Some true → (i : ℕ) × (slice_get s.reached i ≡ Some v)

-- a search that has nothing left to follow
record IsDone (s : Searching) : Type 0 where
  search : IsSearch s
  first : AreKnown s.marks (next_of s.uses s.from)
  followed : (i v : ℕ) → slice_get s.reached i ≡ Some v → AreKnown s.marks (next_of s.uses v)

-- ---- one more

abbrev with_one : Searching → ℕ → Searching
with_one s v = record s { reached = s.reached ++ v ∷ []; marks = slice_set s.marks v true }

found_one : (s : Searching) (v : ℕ) → IsSearch s → slice_get s.marks v ≡ Some false → reaches s.uses (suc (length s.reached)) s.from v ≡ true → IsSearch (with_one s v)
found_one s v search new near =
    record {
      size = length-one_set s.marks v true ∙ search.size;
      counted = let n = marked-set s.marks v new in let m = search.counted in let k = length_push s.reached v in omega arith;
      sound = λ i w at. elim (push-cases s.reached v i w at) [
        | inl before ↦ search.sound i w before
        | inr last ↦ subst (λ u. reaches s.uses (suc i) s.from u ≡ true) last.1 (subst (λ n. reaches s.uses (suc n) s.from v ≡ true) (sym (last.0)) near)
      ];
      listed = λ w at. elim (set-marked s.marks v w at) [
        | inl same ↦ (length s.reached, push-last s.reached v ∙ ap Some (sym same))
        | inr there ↦ let place = search.listed w there in (place.0, push-before s.reached v place.0 w place.1)
      ];
    }

-- no more are reached than there are
few_reached : (s : Searching) → IsSearch s → length s.reached ≤ length s.uses
few_reached s search = let most = marked-most s.marks in let size = search.size in let counted = search.counted in omega arith

-- ---- something new, or nothing

record NewIn (marks : List Bool) (list : List ℕ) : Type 0 where
  at : ℕ
  v : ℕ
  there : slice_get list at ≡ Some v
  new : slice_get marks v ≡ Some false

known_or_new : (marks : List Bool) (list : List ℕ) → AreKnown marks list ⊎ NewIn marks list
known_or_new marks [] = inl (λ i v at. absurd (nowhere i v at))
known_or_new marks (x ∷ list) = by (slice_get marks x) refl (known_or_new marks list)
  where
    all : IsKnown marks x → AreKnown marks list → (i v : ℕ) → slice_get (x ∷ list) i ≡ Some v → IsKnown marks v
    all here rest zero v at = let same : x ≡ v = cc in subst (IsKnown marks) same here
    all here rest (suc i) v at = rest i v at

    more : IsKnown marks x → AreKnown marks list ⊎ NewIn marks list → AreKnown marks (x ∷ list) ⊎ NewIn marks (x ∷ list)
    more here (inl rest) = inl (all here rest)
    more here (inr later) = inr (record { at = suc later.at; v = later.v; there = later.there; new = later.new })

    by : (o : Option Bool) → slice_get marks x ≡ o → AreKnown marks list ⊎ NewIn marks list → AreKnown marks (x ∷ list) ⊎ NewIn marks (x ∷ list)
    by (Some false) is rest = inr (record { at = 0; v = x; there = refl; new = is })
    by (Some true) is rest = more (λ new. false≢true (let both : Some false ≡ Some true = sym new ∙ is in cc)) rest
    by None is rest = more (λ new. let both : Some false ≡ None = sym new ∙ is in cc) rest

record NewFrom (uses : List (List ℕ)) (marks : List Bool) (reached : List ℕ) : Type 0 where
  at : ℕ
  p : ℕ
  there : slice_get reached at ≡ Some p
  new : NewIn marks (next_of uses p)

abbrev AreFollowed : List (List ℕ) → List Bool → List ℕ → Type 0
AreFollowed uses marks reached = (i v : ℕ) → slice_get reached i ≡ Some v → AreKnown marks (next_of uses v)

followed_or_new : (uses : List (List ℕ)) (marks : List Bool) (reached : List ℕ) → AreFollowed uses marks reached ⊎ NewFrom uses marks reached
followed_or_new uses marks [] = inl (λ i v at. absurd (nowhere i v at))
followed_or_new uses marks (p ∷ reached) = by (known_or_new marks (next_of uses p)) (followed_or_new uses marks reached)
  where
    all : AreKnown marks (next_of uses p) → AreFollowed uses marks reached → (i v : ℕ) → slice_get (p ∷ reached) i ≡ Some v → AreKnown marks (next_of uses v)
    all here rest zero v at = let same : p ≡ v = cc in subst (λ k. AreKnown marks (next_of uses k)) same here
    all here rest (suc i) v at = rest i v at

    by : AreKnown marks (next_of uses p) ⊎ NewIn marks (next_of uses p) → AreFollowed uses marks reached ⊎ NewFrom uses marks reached
        → AreFollowed uses marks (p ∷ reached) ⊎ NewFrom uses marks (p ∷ reached)
    by (inr new) rest = inr (record { at = 0; p = p; there = refl; new = new })
    by (inl here) (inr later) = inr (record { at = suc later.at; p = later.p; there = later.there; new = later.new })
    by (inl here) (inl rest) = inl (all here rest)

-- ---- the end of a search

record Ended (s : Searching) : Type 0 where
  last : Searching
  done : IsDone last
  uses : last.uses ≡ s.uses
  from : last.from ≡ s.from

goes_on : (s : Searching) → IsSearch s → ((v : ℕ) → slice_get s.marks v ≡ Some false → reaches s.uses (suc (length s.reached)) s.from v ≡ true → Ended s) → Ended s
goes_on s search on = by (known_or_new s.marks (next_of s.uses s.from)) (followed_or_new s.uses s.marks s.reached)
  where
    by : AreKnown s.marks (next_of s.uses s.from) ⊎ NewIn s.marks (next_of s.uses s.from) → AreFollowed s.uses s.marks s.reached ⊎ NewFrom s.uses s.marks s.reached → Ended s
    by (inr new) rest = on new.v new.new (in_more_steps s.uses 1 (suc (length s.reached)) s.from new.v (omega arith) (first_step s.uses s.from new.v new.at new.there))
    by (inl first) (inr later) =
        let new = later.new in
        let within = slice_get_within s.reached later.at later.p later.there in
        on new.v new.new
        (in_more_steps s.uses (suc (suc later.at)) (suc (length s.reached)) s.from new.v (omega arith)
        (one_step s.uses (suc later.at) s.from later.p new.v new.at (search.sound later.at later.p later.there) new.there))
    by (inl first) (inl rest) = record { last = s; done = record { search = search; first = first; followed = rest }; uses = refl; from = refl }

ends : (left : ℕ) (s : Searching) → IsSearch s → length s.uses ≤ left + length s.reached → Ended s
ends zero s search few = goes_on s search (λ v new near. absurd (full v new near))
  where
    full : (v : ℕ) → slice_get s.marks v ≡ Some false → reaches s.uses (suc (length s.reached)) s.from v ≡ true → ⊥
    full v new near = let more = few_reached (with_one s v) (found_one s v search new near) in let n = length_push s.reached v in omega arith
ends (suc left) s search few = goes_on s search (λ v new near. on v (ends left (with_one s v) (found_one s v search new near) (let n = length_push s.reached v in omega arith)))
  where
    on : (v : ℕ) → Ended (with_one s v) → Ended s
    on v end = record { last = end.last; done = end.done; uses = end.uses; from = end.from }

-- ---- what a search finds

found_marked : (s : Searching) (to : ℕ) → IsDone s → slice_get s.marks to ≡ Some true → reaches s.uses (length s.uses) s.from to ≡ true
found_marked s to done there =
    let place = done.search.listed to there in
    let within = slice_get_within s.reached place.0 to place.1 in
    let few = few_reached s done.search in
    in_more_steps s.uses (suc place.0) (length s.uses) s.from to (omega arith) (done.search.sound place.0 to place.1)

found_unmarked : (s : Searching) (to : ℕ) → IsDone s → slice_get s.marks to ≡ Some false → (steps : ℕ) → reaches s.uses steps s.from to ≡ false
found_unmarked s to done new steps = never_reached s.uses s.marks to new closed steps s.from done.first
  where
    by : (v : ℕ) (m : Option Bool) → slice_get s.marks v ≡ m → IsKnown s.marks v → AreKnown s.marks (next_of s.uses v)
    by v (Some true) is known =
        let place = done.search.listed v is in
        done.followed place.0 v place.1
    by v (Some false) is known = absurd (known is)
    by v None is known = λ i w at. absurd (none-of i w at)
      where
        nothing : slice_get s.uses v ≡ None
        nothing = slice_get_past s.uses v (let size = done.search.size in let past = past-from s.marks v is in omega arith)

        none-of : (i w : ℕ) → slice_get (next_of s.uses v) i ≡ Some w → ⊥
        none-of i w at = nowhere i w (sym (ap (λ o. slice_get (unwrap_or o []) i) nothing) ∙ at)

    closed : (v : ℕ) → IsKnown s.marks v → AreKnown s.marks (next_of s.uses v)
    closed v known = by v (slice_get s.marks v) refl known

-- before anything was reached
abbrev fresh : List (List ℕ) → ℕ → Searching
fresh uses from = record { uses = uses; from = from; reached = []; marks = replicate (length uses) false }

fresh_search : (uses : List (List ℕ)) (from : ℕ) → IsSearch (fresh uses from)
fresh_search uses from =
    record {
      size = length-none (length uses);
      counted = marked-none (replicate (length uses) false) (no_mark (length uses));
      sound = λ i v at. absurd (nowhere i v at);
      listed = λ v at. absurd (no_mark (length uses) v at);
    }

pub in_few_steps : (uses : List (List ℕ)) (steps from to : ℕ) → to < length uses → reaches uses steps from to ≡ true → reaches uses (length uses) from to ≡ true
in_few_steps uses steps from to within there = by (slice_get end.last.marks to) refl
  where
    end : Ended (fresh uses from)
    end = ends (length uses) (fresh uses from) (fresh_search uses from) (omega arith)

    by : (m : Option Bool) → slice_get end.last.marks to ≡ m → reaches uses (length uses) from to ≡ true
    by (Some true) is = sym (λ j. reaches (end.uses j) (length (end.uses j)) (end.from j) to) ∙ found_marked end.last to end.done is
    by (Some false) is =
        absurd (false≢true (sym (found_unmarked end.last to end.done is steps) ∙ (λ j. reaches (end.uses j) steps (end.from j) to) ∙ there))
    by None is = absurd (let size = end.done.search.size in let same = ap length end.uses in let past = past-from end.last.marks to is in omega arith)
