-- What guesses leave: a smaller set that loses.
use Rattle.std.proofs.Common.{◌≡◌, ◌≢◌, ℕ, ◌<◌, ◌≤◌, Bool, true, false, inl, inr, List, [], ◌∷◌, length, get_or, filter, cond, vec_capacity, ◌∙◌, sym, ap, subst, arith}
use Rattle.std.specs.List.{Contains, remove}
use Rattle.std.proofs.lemmas.List.{get_or_default}
use Rattle.std.proofs.lemmas.List.Elements.{All-filter, Contains-append_left, Contains-append_right, Contains-push}
use Rattle.std.proofs.lemmas.List.Kept.{IsStrictlyIncreasing-filter}
use Rattle.core_min.specs.declared.losing.Losing.{Losing}
use Rattle.core_min.specs.Sets.{IsSetBelow, IsPartOf, IsLosing}
use Rattle.core_min.specs.Judges.{IsSameJudge}
use Rattle.core_min.specs.Known.{IsKnown, Guesses}
use Rattle.core_min.proofs.Answered.{same_at_first, same_on}
use Rattle.core_min.proofs.Removed.{without_is_remove}
use Rattle.core_min.proofs.Turns.{one_of, to_without}

module _ {J F : Type 0} (size : J → ℕ) (IsWinning : J → List ℕ → Type 0) (MayFail : J → List ℕ → F → Type 0) (faults : J → ℕ) where
  pub guesses_at_first : (j : J) (losing : Losing) → IsKnown size IsWinning j losing → Guesses size IsWinning MayFail faults j j losing losing
  guesses_at_first j losing known = record { same = same_at_first size IsWinning MayFail faults j; known = known; inside = λ n there. there }

  pub guesses_on : (first mid new : J) (a b c : Losing) → Guesses size IsWinning MayFail faults first mid a b → Guesses size IsWinning MayFail faults mid new b c → Guesses size IsWinning MayFail faults first new a c
  guesses_on first mid new a b c before call =
      record {
        same = same_on size IsWinning MayFail faults first mid new before.same call.same;
        known = call.known;
        inside = λ n there. before.inside n (call.inside n there);
      }

  -- the same set, as far as the judge is the same
  pub stays_known : (old new : J) (losing : Losing) → IsSameJudge size IsWinning MayFail faults old new → IsKnown size IsWinning old losing → IsKnown size IsWinning new losing
  stays_known old new losing same known =
      record {
        numbers = rw same.same_size known.numbers;
        loses = λ won. known.loses ((same.winning losing.lost.items).0 won);
        room = rw same.same_size known.room;
        part_room = rw same.same_size known.part_room;
      }

  -- another set is taken, that loses
  pub taken_known : (old new : J) (before after : Losing) (set : List ℕ) → IsSameJudge size IsWinning MayFail faults old new → IsSetBelow (size old) set → IsLosing (IsWinning old) set → size old ≤ vec_capacity before.lost → size old ≤ vec_capacity before.part → after.lost.items ≡ set → vec_capacity before.lost ≤ vec_capacity after.lost → after.part ≡ before.part → IsKnown size IsWinning new after
  taken_known old new before after set same numbers loses room part_room is more part =
      let wide = ap (λ v. vec_capacity v) part in
      let count = same.same_size in
      record {
        numbers = rw (same.same_size, is) numbers;
        loses = λ won. loses ((same.winning set).0 (subst (IsWinning new) is won));
        room = omega (arith, count, room, more);
        part_room = omega (arith, count, part_room, wide);
      }

-- a set whose numbers a test picks
pub picked_part : (p : ℕ → Bool) (xs : List ℕ) → IsPartOf (filter p xs) xs
picked_part p [] k there = there
picked_part p (x ∷ xs) k there = at (p x) there (λ later. picked_part p xs k later)
  where
    at : (b : Bool) → Contains (cond b (x ∷ filter p xs) (filter p xs)) k → (Contains (filter p xs) k → Contains xs k) → Contains (x ∷ xs) k
    at true there on =
        elim (one_of x (filter p xs) k there) [
          | inl here ↦ subst (Contains (x ∷ xs)) here (Contains-append_left (x ∷ []) xs x (Contains-push [] x))
          | inr later ↦ Contains-append_right (x ∷ []) xs k (on later)
        ]
    at false there on = Contains-append_right (x ∷ []) xs k (on there)

pub picked_is_set : (n : ℕ) (p : ℕ → Bool) (xs : List ℕ) → IsSetBelow n xs → IsSetBelow n (filter p xs)
picked_is_set n p xs set = record { rises = IsStrictlyIncreasing-filter p xs set.rises; below = All-filter p (λ m. m < n) xs set.below }

-- a part that hasn't the number at a place
pub part_without : (n : ℕ) (set part : List ℕ) (at x : ℕ) → IsSetBelow n set → at < length set → IsPartOf part set → x ≡ get_or set at x → ((k : ℕ) → Contains part k → k ≢ x) → IsPartOf part (remove set at)
part_without n set part at x numbers inside within is other k there =
    let here : x ≡ get_or set at 0 = is ∙ get_or_default set at x 0 inside in
    subst (λ (xs : List ℕ). Contains xs k) (without_is_remove n set at numbers inside) (to_without set (get_or set at 0) k (within k there) (λ same. other k there (same ∙ sym here)))
