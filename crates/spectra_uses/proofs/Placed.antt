-- Definitions that are placed stand behind those that they use.
use Rattle.std.proofs.Common.{◌≡◌, ℕ, zero, suc, ◌+◌, ◌-◌, ◌<◌, ◌≤◌, Bool, true, false, List, [], ◌∷◌, ◌++◌, length, take, Option, Some, None, get_or, slice_get, slice_set, replicate, refl, sym, ap, subst, ◌∙◌, inl, inr, ◌⊎◌, arith}
use Rattle.std.proofs.lemmas.Bool.{cases_lt}
use Rattle.std.proofs.lemmas.Option.{slice_get_within}
use Rattle.std.proofs.lemmas.List.{length_push}
use Rattle.spectra_uses.specs.Cycles.{reaches}
use Rattle.spectra_uses.specs.Orders.{StandsBefore, IsUse, BothOnCycle, IsOrderOf}
use Rattle.spectra_uses.specs.Searching.{next_of, IsKnown, AreKnown, marked, HasNoMark}
use Rattle.spectra_uses.specs.Placing.{Placing, IsChain, IsNext, AreFollowedOn, IsPlacing, PlacesOn, IsLast, left}
use Rattle.spectra_uses.proofs.Reaching.{first_step, step_first, one_step, in_more_steps, at_place, nowhere, push-before, push-last, push-cases}
use Rattle.spectra_uses.proofs.Marked.{length-one_set, marked-most, marked-set, marked-none, past-from, set-known, set-marked}

-- ---- paths

module _ (uses : List (List ℕ)) (path : List ℕ) (chain : IsChain uses path) where
  -- one on a path uses those behind it, through those between
  pub path_reaches : (d p a b : ℕ) → slice_get path p ≡ Some a → slice_get path (suc d + p) ≡ Some b → reaches uses (suc d) a b ≡ true
  path_reaches zero p a b here there =
      let e : suc zero + p ≡ suc p = omega arith in
      let link = chain p a b here (ap (slice_get path) (sym e) ∙ there) in
      first_step uses a b link.at link.there
  path_reaches (suc d) p a b here there =
      let e : suc (suc d) + p ≡ suc (suc d + p) = omega arith in
      let within = slice_get_within path (suc (suc d) + p) b there in
      let middle = at_place path (suc d + p) (omega arith) in
      let link = chain (suc d + p) (get_or path (suc d + p) 0) b middle (ap (slice_get path) (sym e) ∙ there) in
      one_step uses (suc d) a (get_or path (suc d + p) 0) b link.at (path_reaches d p a (get_or path (suc d + p) 0) here middle) link.there

-- the last one on a path, and another that it uses
pub both_on_cycle : (uses : List (List ℕ)) (path : List ℕ) (count p t u v i : ℕ) → IsChain uses path → length path ≤ count → suc t ≡ length path
    → slice_get path t ≡ Some u → slice_get path p ≡ Some v → slice_get (next_of uses u) i ≡ Some v → BothOnCycle uses count u v
both_on_cycle uses path count p t u v i chain few last top here at = elim (cases_lt p t) [
  | inl before ↦ through (omega arith)
  | inr behind ↦ itself (let within = slice_get_within path p v here in omega arith)
]
  where
    through : suc (t - suc p) + p ≡ t → BothOnCycle uses count u v
    through e =
        let there = path_reaches uses path chain (t - suc p) p v u here (ap (slice_get path) e ∙ top) in
        record {
          user_is = in_more_steps uses (suc (suc (t - suc p))) count u u (omega arith) (step_first uses (suc (t - suc p)) u v u i at there);
          used_is = in_more_steps uses (suc (suc (t - suc p))) count v v (omega arith) (one_step uses (suc (t - suc p)) v u v i there at);
        }

    itself : p ≡ t → BothOnCycle uses count u v
    itself e =
        let both : Some u ≡ Some v = sym top ∙ ap (slice_get path) (sym e) ∙ here in
        let same : u ≡ v = cc in
        let there = in_more_steps uses 1 count u v (omega arith) (first_step uses u v i at) in
        record {
          user_is = subst (λ w. reaches uses count u w ≡ true) (sym same) there;
          used_is = subst (λ w. reaches uses count w v ≡ true) same there;
        }

-- ---- one more on the path

abbrev pub opened : Placing → ℕ → Placing
opened s v = record s { path = s.path ++ v ∷ []; marks = slice_set s.marks v true }

stands_still : (xs : List ℕ) (x place more v : ℕ) → place ≤ more → StandsBefore xs place v → StandsBefore (xs ++ x ∷ []) more v
stands_still xs x place more v le stands = record { at = stands.at; before = let b = stands.before in omega arith; there = push-before xs x stands.at v stands.there }

stands_last : (xs : List ℕ) (v : ℕ) → StandsBefore (xs ++ v ∷ []) (length (xs ++ v ∷ [])) v
stands_last xs v = record { at = length xs; before = let n = length_push xs v in omega arith; there = push-last xs v }

longer : (xs : List ℕ) (x : ℕ) → length xs ≤ length (xs ++ x ∷ [])
longer xs x = let n = length_push xs x in omega arith

chain-push : (uses : List (List ℕ)) (path : List ℕ) (v : ℕ) → IsChain uses path → IsNext uses path v → IsChain uses (path ++ v ∷ [])
chain-push uses path v chain next p a b here there = elim (push-cases path v (suc p) b there) [
  | inl before ↦ chain p a b (inside (let w = slice_get_within path (suc p) b before in omega arith)) before
  | inr last ↦ subst (IsUse uses a) last.1 (next p a last.0 (inside (let e = last.0 in omega arith)))
]
  where
    inside : p < length path → slice_get path p ≡ Some a
    inside below = elim (push-cases path v p a here) [ inl before ↦ before | inr last ↦ absurd (let e = last.0 in omega arith) ]

pub open_one : (s : Placing) (v : ℕ) → IsPlacing s → slice_get s.marks v ≡ Some false → IsNext s.uses s.path v → IsPlacing (opened s v)
open_one s v old new next =
    record {
      size = length-one_set s.marks v true ∙ old.size;
      room = old.room;
      counted = let n = marked-set s.marks v new in let m = old.counted in let k = length_push s.path v in omega arith;
      listed = λ w at. elim (set-marked s.marks v w at) [
        | inl same ↦ inl (subst (StandsBefore (s.path ++ v ∷ []) (length (s.path ++ v ∷ []))) (sym same) (stands_last s.path v))
        | inr there ↦ elim (old.listed w there) [
          | inl waits ↦ inl (stands_still s.path v (length s.path) (length (s.path ++ v ∷ [])) w (longer s.path v) waits)
          | inr placed ↦ inr placed
        ]
      ];
      chain = chain-push s.uses s.path v old.chain next;
      followed = λ u i w below at. set-known s.marks v w (old.followed u i w below at);
      waiting = λ p w at. elim (push-cases s.path v p w at) [
        | inl before ↦ old.waiting p w before
        | inr last ↦ subst (λ k. k < length s.uses) last.1 (let b = slice_get_within s.marks v false new in let e = old.size in omega arith)
      ];
      within = old.within;
      placed = old.placed;
    }

pub opens_on : (s : Placing) (v : ℕ) → IsPlacing s → slice_get s.marks v ≡ Some false → IsNext s.uses s.path v → PlacesOn s (opened s v)
opens_on s v old new next = record { placing = open_one s v old new next; uses = refl; known = λ w known. set-known s.marks v w known }

pub opens_less : (s : Placing) (v : ℕ) → IsPlacing s → IsPlacing (opened s v) → left (opened s v) < left s
opens_less s v old new =
    let most = marked-most (slice_set s.marks v true) in
    let size = new.size in
    let counted = new.counted in
    let n = length_push s.path v in
    omega arith

-- ---- one is placed

abbrev pub placed_last : Placing → List ℕ → ℕ → Placing
placed_last s rest u = record s { path = rest; order = s.order ++ u ∷ [] }

module _ (s : Placing) (rest : List ℕ) (u : ℕ) (path : s.path ≡ rest ++ u ∷ []) (old : IsPlacing s) (known : AreKnown s.marks (next_of s.uses u)) where
  few : length s.path ≤ length s.uses
  few = let most = marked-most s.marks in let size = old.size in let counted = old.counted in omega arith

  path_size : length s.path ≡ suc (length rest)
  path_size = let e = ap length path in let n = length_push rest u in omega arith

  top : slice_get s.path (length rest) ≡ Some u
  top = ap (λ xs. slice_get xs (length rest)) path ∙ push-last rest u

  -- what the one that is placed uses is placed before it, or both are used in their own bodies
  last_placed : (used : ℕ) → IsUse s.uses u used → used < length s.uses → StandsBefore s.order (length s.order) used ⊎ BothOnCycle s.uses (length s.uses) u used
  last_placed used link below = by (slice_get s.marks used) refl
    where
      by : (m : Option Bool) → slice_get s.marks used ≡ m → StandsBefore s.order (length s.order) used ⊎ BothOnCycle s.uses (length s.uses) u used
      by (Some false) is = absurd (known link.at used link.there is)
      by None is = absurd (let past = past-from s.marks used is in let size = old.size in omega arith)
      by (Some true) is = elim (old.listed used is) [
        | inl waits ↦ inr (both_on_cycle s.uses s.path (length s.uses) waits.at (length rest) u used link.at old.chain few (sym path_size) top waits.there link.there)
        | inr stands ↦ inl stands
      ]

  pub place_one : IsPlacing (placed_last s rest u)
  place_one =
      record {
        size = old.size;
        room = old.room;
        counted = let n = path_size in let m = old.counted in let k = length_push s.order u in omega arith;
        listed = λ w at. elim (old.listed w at) [
          | inl waits ↦ elim (push-cases rest u waits.at w (ap (λ xs. slice_get xs waits.at) (sym path) ∙ waits.there)) [
            | inl before ↦ inl (record { at = waits.at; before = slice_get_within rest waits.at w before; there = before })
            | inr last ↦ inr (subst (StandsBefore (s.order ++ u ∷ []) (length (s.order ++ u ∷ []))) last.1 (stands_last s.order u))
          ]
          | inr stands ↦ inr (stands_still s.order u (length s.order) (length (s.order ++ u ∷ [])) w (longer s.order u) stands)
        ];
        chain = λ p a b here there. old.chain p a b (before p a here) (before (suc p) b there);
        followed = old.followed;
        waiting = λ p v at. old.waiting p v (before p v at);
        within = λ i v at. elim (push-cases s.order u i v at) [
          | inl earlier ↦ old.within i v earlier
          | inr last ↦ subst (λ k. k < length s.uses) last.1 (old.waiting (length rest) u top)
        ];
        placed = λ i user used at link below. elim (push-cases s.order u i user at) [
          | inl earlier ↦ elim (old.placed i user used earlier link below) [
            | inl stands ↦ inl (stands_still s.order u i i used (omega arith) stands)
            | inr both ↦ inr both
          ]
          | inr last ↦ elim (last_placed used (subst (λ k. IsUse s.uses k used) (sym last.1) link) below) [
            | inl stands ↦ inl (stands_still s.order u (length s.order) i used (let e = last.0 in omega arith) stands)
            | inr both ↦ inr (subst (λ k. BothOnCycle s.uses (length s.uses) k used) last.1 both)
          ]
        ];
      }
    where
      before : (p a : ℕ) → slice_get rest p ≡ Some a → slice_get s.path p ≡ Some a
      before p a at = ap (λ xs. slice_get xs p) path ∙ push-before rest u p a at

  pub places_on : PlacesOn s (placed_last s rest u)
  places_on = record { placing = place_one; uses = refl; known = λ v known. known }

  pub places_less : left (placed_last s rest u) < left s
  places_less =
      let enough = few in
      let n = path_size in
      let k = length_push s.order u in
      let most = marked-most s.marks in
      let size = old.size in
      let counted = old.counted in
      omega arith

-- a list without its last one, and that one
last_split : (xs : List ℕ) (n x : ℕ) → suc n ≡ length xs → slice_get xs n ≡ Some x → xs ≡ take n xs ++ x ∷ []
last_split [] n x size at = absurd (omega arith)
last_split (y ∷ []) zero x size at = let same : y ≡ x = cc in ap (λ z. z ∷ []) same
last_split (y ∷ z ∷ zs) zero x size at = absurd (omega arith)
last_split (y ∷ xs) (suc n) x size at = ap (λ l. y ∷ l) (last_split xs n x (omega arith) at)

pub popped : (path rest : List ℕ) (n u : ℕ) → n ≡ length path → rest ≡ take (n - 1) path → IsLast path u → path ≡ rest ++ u ∷ []
popped path rest n u size is last =
    let within = slice_get_within path (length path - 1) u last in
    let e : n - 1 ≡ length path - 1 = omega arith in
    last_split path (n - 1) u (omega arith) (ap (slice_get path) e ∙ last) ∙ ap (λ r. r ++ u ∷ []) (sym is)

-- ---- the beginning and the end

zeros : (m u : ℕ) → get_or (replicate {A = ℕ} m 0) u 0 ≡ 0
zeros zero u = refl
zeros (suc m) zero = refl
zeros (suc m) (suc u) = zeros m u

zero_at : (xs : List ℕ) (n m u : ℕ) → xs ≡ [] → get_or (take n xs ++ replicate m 0) u 0 ≡ 0
zero_at [] zero m u e = zeros m u
zero_at [] (suc n) m u e = zeros m u
zero_at (x ∷ xs) n m u e = absurd (cc)

pub nothing_followed : (uses : List (List ℕ)) (marks : List Bool) (xs followed : List ℕ) (n m : ℕ) → followed ≡ take n xs ++ replicate m 0 → xs ≡ []
    → (u i v : ℕ) → i < get_or followed u 0 → slice_get (next_of uses u) i ≡ Some v → IsKnown marks v
nothing_followed uses marks xs followed n m is nothing u i v below at =
    absurd (let e = ap (λ ys. get_or ys u 0) is ∙ zero_at xs n m u nothing in omega arith)

pub fresh_placing : (s : Placing) → length s.marks ≡ length s.uses → length s.followed ≡ length s.uses → s.path ≡ [] → s.order ≡ [] → HasNoMark s.marks → AreFollowedOn s → IsPlacing s
fresh_placing s size room path order none followed =
    record {
      size = size;
      room = room;
      counted = let m = marked-none s.marks none in let p = ap length path in let o = ap length order in omega arith;
      listed = λ v at. absurd (none v at);
      chain = λ p a b here there. absurd (nowhere p a (sym (ap (λ xs. slice_get xs p) path) ∙ here));
      followed = followed;
      waiting = λ p v at. absurd (nowhere p v (sym (ap (λ xs. slice_get xs p) path) ∙ at));
      within = λ i v at. absurd (nowhere i v (sym (ap (λ xs. slice_get xs i) order) ∙ at));
      placed = λ i user used at link below. absurd (nowhere i user (sym (ap (λ xs. slice_get xs i) order) ∙ at));
    }

marked-all : (marks : List Bool) → ((v : ℕ) → v < length marks → IsKnown marks v) → marked marks ≡ length marks
marked-all [] known = refl
marked-all (true ∷ marks) known = let rest = marked-all marks (λ v below. known (suc v) (omega arith)) in omega arith
marked-all (false ∷ marks) known = absurd (known 0 (omega arith) refl)

pub all_placed : (s : Placing) → IsPlacing s → s.path ≡ [] → ((v : ℕ) → v < length s.uses → IsKnown s.marks v) → IsOrderOf s.uses (length s.uses) s.order
all_placed s done path known =
    record {
      size = let all = marked-all s.marks (λ v below. known v (let e = done.size in omega arith)) in let m = done.counted in let p = ap length path in let e = done.size in omega arith;
      whole = λ k below. by k below (slice_get s.marks k) refl;
      within = done.within;
      behind = done.placed;
    }
  where
    by : (k : ℕ) → k < length s.uses → (m : Option Bool) → slice_get s.marks k ≡ m → StandsBefore s.order (length s.order) k
    by k below (Some false) is = absurd (known k below is)
    by k below None is = absurd (let past = past-from s.marks k is in let size = done.size in omega arith)
    by k below (Some true) is = elim (done.listed k is) [
      | inl waits ↦ absurd (nowhere waits.at k (sym (ap (λ xs. slice_get xs waits.at) path) ∙ waits.there))
      | inr stands ↦ stands
    ]
