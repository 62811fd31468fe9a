-- The users of definitions, one more after another.
use Rattle.std.proofs.Common.{◌≡◌, ℕ, zero, suc, ◌+◌, ◌<◌, ◌≤◌, List, [], ◌∷◌, ◌++◌, length, map, Option, Some, None, unwrap_or, slice_get, slice_set, refl, sym, ap, subst, ◌∙◌, inl, inr, ◌⊎◌, arith}
use Rattle.std.proofs.lemmas.Bool.{cases_lt}
use Rattle.std.proofs.lemmas.Option.{slice_get_within}
use Rattle.spectra_uses.specs.Searching.{next_of}
use Rattle.spectra_uses.specs.Walking.{IsAmong}
use Rattle.spectra_uses.specs.Users.{AddsUser, AreUsers}
use Rattle.spectra_uses.proofs.Reaching.{nowhere, push-before, push-last, push-cases}
use Rattle.spectra_uses.proofs.Marked.{same_or_not, set-here, set-other, length-one_set}
use Rattle.spectra_uses.proofs.Walked.{one_among}

pub map-one_set : {X Y : Type 0} (f : X → Y) (xs : List X) (i : ℕ) (x : X) → map f (slice_set xs i x) ≡ slice_set (map f xs) i (f x)
map-one_set f [] i x = refl
map-one_set f (y ∷ xs) zero x = refl
map-one_set f (y ∷ xs) (suc i) x = ap (λ ys. f y ∷ ys) (map-one_set f xs i x)

-- ---- one more user of one definition

pub adds_not : (lists : List (List ℕ)) (user used : ℕ) → length lists ≤ used → AddsUser lists lists user (used ∷ [])
adds_not lists user used past =
    record {
      size = refl;
      kept = λ a v among. among;
      each = λ a v among. inl among;
      added = λ a among within. absurd (none among.0 a among.1 within);
    }
  where
    none : (i a : ℕ) → slice_get (used ∷ []) i ≡ Some a → a < length lists → ⊥
    none zero a at within = let same : used ≡ a = cc in omega arith
    none (suc i) a at within = nowhere i a at

module _ (old new : List (List ℕ)) (user used : ℕ) (us : List ℕ) (there : slice_get old used ≡ Some us) (set : new ≡ slice_set old used (us ++ user ∷ [])) where
  was : next_of old used ≡ us
  was = ap (λ o. unwrap_or o []) there

  is : next_of new used ≡ us ++ user ∷ []
  is = ap (λ lists. next_of lists used) set ∙ ap (λ o. unwrap_or o []) (set-here old used (us ++ user ∷ []) (slice_get_within old used us there))

  others : (a : ℕ) → (a ≡ used → ⊥) → next_of new a ≡ next_of old a
  others a other = ap (λ lists. next_of lists a) set ∙ ap (λ o. unwrap_or o []) (set-other old used a (us ++ user ∷ []) other)

  kept_here : (a v : ℕ) → a ≡ used → IsAmong (next_of old a) v → IsAmong (next_of new a) v
  kept_here a v same among =
      let before = subst (λ xs. IsAmong xs v) (ap (next_of old) same ∙ was) among in
      subst (λ xs. IsAmong xs v) (sym (ap (next_of new) same ∙ is)) (before.0, push-before us user before.0 v before.1)

  each_here : (a v : ℕ) → a ≡ used → IsAmong (next_of new a) v → IsAmong (next_of old a) v ⊎ ((v ≡ user) × IsAmong (used ∷ []) a)
  each_here a v same among =
      let after = subst (λ xs. IsAmong xs v) (ap (next_of new) same ∙ is) among in
      elim (push-cases us user after.0 v after.1) [
        | inl before ↦ inl (subst (λ xs. IsAmong xs v) (sym (ap (next_of old) same ∙ was)) (after.0, before))
        | inr last ↦ inr (sym last.1, (0, ap Some (sym same)))
      ]

  added_here : (i a : ℕ) → slice_get (used ∷ []) i ≡ Some a → IsAmong (next_of new a) user
  added_here zero a at =
      let same : used ≡ a = cc in
      subst (λ xs. IsAmong xs user) (sym (ap (next_of new) (sym same) ∙ is)) (length us, push-last us user)
  added_here (suc i) a at = absurd (nowhere i a at)

  pub adds_one : AddsUser old new user (used ∷ [])
  adds_one =
      record {
        size = ap length set ∙ length-one_set old used (us ++ user ∷ []);
        kept = λ a v among. elim (same_or_not a used) [
          | inl same ↦ kept_here a v same among
          | inr other ↦ subst (λ xs. IsAmong xs v) (sym (others a other)) among
        ];
        each = λ a v among. elim (same_or_not a used) [
          | inl same ↦ each_here a v same among
          | inr other ↦ inl (subst (λ xs. IsAmong xs v) (others a other) among)
        ];
        added = λ a among within. added_here among.0 a among.1;
      }

-- ---- one more user of each of a list

-- one more user of each of the first of a list
pub record AddsFirst (old new : List (List ℕ)) (user : ℕ) (list : List ℕ) (count : ℕ) : Type 0 where
  pub size : length new ≡ length old
  pub kept : (used v : ℕ) → IsAmong (next_of old used) v → IsAmong (next_of new used) v
  pub each : (used v : ℕ) → IsAmong (next_of new used) v → IsAmong (next_of old used) v ⊎ ((v ≡ user) × IsAmong list used)
  pub added : (i used : ℕ) → i < count → slice_get list i ≡ Some used → used < length old → IsAmong (next_of new used) user

pub adds_none : (old : List (List ℕ)) (user : ℕ) (list : List ℕ) → AddsFirst old old user list 0
adds_none old user list =
    record { size = refl; kept = λ a v among. among; each = λ a v among. inl among; added = λ i a below at within. absurd (omega arith) }

module _ (old mid new : List (List ℕ)) (user : ℕ) (list : List ℕ) (k w : ℕ) (at : slice_get list k ≡ Some w) where
  pub adds_on : AddsFirst old mid user list k → AddsUser mid new user (w ∷ []) → AddsFirst old new user list (k + 1)
  adds_on first next =
      record {
        size = next.size ∙ first.size;
        kept = λ a v among. next.kept a v (first.kept a v among);
        each = λ a v among. elim (next.each a v among) [
          | inl before ↦ first.each a v before
          | inr more ↦ inr (more.0, one_among list k w at a more.1)
        ];
        added = λ i a below there within. elim (cases_lt i k) [
          | inl earlier ↦ next.kept a user (first.added i a earlier there within)
          | inr behind ↦ last i a (omega arith) there within
        ];
      }
    where
      last : (i a : ℕ) → i ≡ k → slice_get list i ≡ Some a → a < length old → IsAmong (next_of new a) user
      last i a here there within =
          let same : Some w ≡ Some a = sym at ∙ ap (slice_get list) (sym here) ∙ there in
          next.added a (0, same) (let size = first.size in omega arith)

pub adds_all : (old new : List (List ℕ)) (user : ℕ) (list : List ℕ) (count : ℕ) → AddsFirst old new user list count → length list ≤ count → AddsUser old new user list
adds_all old new user list count first all =
    record {
      size = first.size;
      kept = first.kept;
      each = first.each;
      added = λ a among within. first.added among.0 a (let here = slice_get_within list among.0 a among.1 in omega arith) among.1 within;
    }

-- ---- the users of all

-- no lists but empty ones
abbrev pub HasNoUser : List (List ℕ) → Type 0
HasNoUser lists = (used v : ℕ) → IsAmong (next_of lists used) v → ⊥

pub no_user_more : (lists : List (List ℕ)) (xs : List ℕ) → xs ≡ [] → HasNoUser lists → HasNoUser (lists ++ xs ∷ [])
no_user_more lists xs empty none a v among = by (slice_get (lists ++ xs ∷ []) a) refl
  where
    in_list : (ys : List ℕ) → slice_get (lists ++ xs ∷ []) a ≡ Some ys → IsAmong ys v
    in_list ys is = subst (λ zs. IsAmong zs v) (ap (λ o. unwrap_or o []) is) among

    by : (o : Option (List ℕ)) → slice_get (lists ++ xs ∷ []) a ≡ o → ⊥
    by None is = let none_there = subst (λ zs. IsAmong zs v) (ap (λ o. unwrap_or o []) is) among in nowhere none_there.0 v none_there.1
    by (Some ys) is = elim (push-cases lists xs a ys is) [
      | inl before ↦ none a v (subst (λ zs. IsAmong zs v) (sym (ap (λ o. unwrap_or o []) before)) (in_list ys is))
      | inr last ↦ (let there = subst (λ zs. IsAmong zs v) (sym last.1 ∙ empty) (in_list ys is) in nowhere there.0 v there.1)
    ]

pub users_none : (uses lists : List (List ℕ)) → length lists ≡ length uses → HasNoUser lists → AreUsers uses lists 0
users_none uses lists size none =
    record { size = size; each = λ a v among. absurd (none a v among); all = λ a v below among within. absurd (omega arith) }

pub users_on : (uses old new : List (List ℕ)) (user : ℕ) → AreUsers uses old user → AddsUser old new user (next_of uses user) → AreUsers uses new (user + 1)
users_on uses old new user users adds =
    record {
      size = adds.size ∙ users.size;
      each = λ a v among. elim (adds.each a v among) [
        | inl before ↦ users.each a v before
        | inr more ↦ subst (λ k. IsAmong (next_of uses k) a) (sym more.0) more.1
      ];
      all = λ a v below among within. elim (cases_lt v user) [
        | inl earlier ↦ adds.kept a v (users.all a v earlier among within)
        | inr behind ↦ last a v (omega arith) among within
      ];
    }
  where
    last : (a v : ℕ) → v ≡ user → IsAmong (next_of uses v) a → a < length uses → IsAmong (next_of new a) v
    last a v same among within =
        subst (λ k. IsAmong (next_of new a) k) (sym same)
        (adds.added a (subst (λ k. IsAmong (next_of uses k) a) same among) (let size = users.size in omega arith))
