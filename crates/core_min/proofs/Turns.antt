-- How trying goes on, and that what it leaves is a core.
use Rattle.std.proofs.Common.{◌≡◌, ◌==◌, ◌⊎◌, inl, inr, ℕ, suc, ◌+◌, ◌<◌, ◌≤◌, Bool, true, false, not, List, [], ◌∷◌, length, get_or, drop, cond, refl, sym, ◌∙◌, subst, arith}
use Rattle.std.specs.List.{remove, Contains}
use Rattle.std.proofs.Math.Seq.{drop-cons}
use Rattle.std.proofs.Math.Numerals.{add-one}
use Rattle.std.proofs.lemmas.Bool.{eq-eqb, eqb-true, false≢true}
use Rattle.std.proofs.lemmas.List.{drop_all}
use Rattle.std.proofs.lemmas.List.Edits.{length-remove}
use Rattle.std.proofs.lemmas.List.Elements.{All-filter, Contains-append_cases, Contains-append_left, Contains-append_right, Contains-push, Contains-push_cases}
use Rattle.std.proofs.lemmas.List.Kept.{IsStrictlyIncreasing-filter}
use Rattle.core_min.specs.Sets.{below, without, IsSetBelow, IsPartOf, PartsWin, IsLosing, IsCore, Leaves, AsksFrom, IsLeft, IsAsked}
use Rattle.core_min.proofs.Removed.{without_is_remove, removed_is_set, drop_removed, all_below}

module _ (IsWinning : List ℕ → Type 0) (n : ℕ) where
  -- the numbers of the set from a place on are still to be tried
  pub record IsTrying (set : List ℕ) (at : ℕ) : Type 0 where
    pub within : at ≤ length set
    pub numbers : IsSetBelow n set
    pub loses : IsLosing IsWinning set
    pub left : (left : List ℕ) → Leaves IsWinning set (drop at set) left → IsLeft IsWinning n left
    pub asked : (asked : List ℕ) → AsksFrom IsWinning set (drop at set) asked → IsAsked IsWinning n asked

  pub begins : IsLosing IsWinning (below n) → IsTrying (below n) 0
  begins loses = record { within = omega arith; numbers = all_below n; loses = loses; left = λ left leaves. leaves; asked = λ asked asks. asks }

  module _ (set : List ℕ) (at : ℕ) (trying : IsTrying set at) (inside : at < length set) where
    is_removed : without set (get_or set at 0) ≡ remove set at
    is_removed = without_is_remove n set at trying.numbers inside

    first : drop at set ≡ get_or set at 0 ∷ drop (suc at) set
    first = drop-cons set at 0 inside

    pub asks : IsAsked IsWinning n (remove set at)
    asks = trying.asked (remove set at) (subst (λ (ns : List ℕ). AsksFrom IsWinning set ns (remove set at)) (sym first) (inl is_removed))

    pub drops : IsLosing IsWinning (remove set at) → IsTrying (remove set at) at
    drops lost =
        record {
          within = let shorter = length-remove set at inside in omega (arith, shorter, inside);
          numbers = removed_is_set n set at trying.numbers inside;
          loses = lost;
          left = λ left leaves. trying.left left (subst (λ (ns : List ℕ). Leaves IsWinning set ns left) (sym first) (inl (was_lost, on (λ set ns. Leaves IsWinning set ns left) leaves)));
          asked = λ asked asks. trying.asked asked (subst (λ (ns : List ℕ). AsksFrom IsWinning set ns asked) (sym first) (inr (inl (was_lost, on (λ set ns. AsksFrom IsWinning set ns asked) asks))));
        }
      where
        was_lost : IsLosing IsWinning (without set (get_or set at 0))
        was_lost = subst (λ (set : List ℕ). IsLosing IsWinning set) (sym is_removed) lost

        on : (P : List ℕ → List ℕ → Type 0) → P (remove set at) (drop at (remove set at)) → P (without set (get_or set at 0)) (drop (suc at) set)
        on P p = subst (λ (xs : List ℕ). P xs (drop (suc at) set)) (sym is_removed) (subst (λ (ns : List ℕ). P (remove set at) ns) (drop_removed set at inside) p)

    pub keeps : IsWinning (remove set at) → IsTrying set (at + 1)
    keeps won =
        record {
          within = omega (arith, inside);
          numbers = trying.numbers;
          loses = trying.loses;
          left = λ left leaves. trying.left left (subst (λ (ns : List ℕ). Leaves IsWinning set ns left) (sym first) (inr (has_won, next (λ ns. Leaves IsWinning set ns left) leaves)));
          asked = λ asked asks. trying.asked asked (subst (λ (ns : List ℕ). AsksFrom IsWinning set ns asked) (sym first) (inr (inr (has_won, next (λ ns. AsksFrom IsWinning set ns asked) asks))));
        }
      where
        has_won : IsWinning (without set (get_or set at 0))
        has_won = subst IsWinning (sym is_removed) won

        next : (P : List ℕ → Type 0) → P (drop (at + 1) set) → P (drop (suc at) set)
        next P p = subst (λ (k : ℕ). P (drop k set)) (add-one at) p

  pub ends : (set : List ℕ) (at : ℕ) → IsTrying set at → length set ≤ at → IsLeft IsWinning n set
  ends set at trying over = trying.left set (subst (λ (ns : List ℕ). Leaves IsWinning set ns set) (sym (drop_all at set over)) refl)

-- ---- what is left is a core

pub one_of : (x : ℕ) (xs : List ℕ) (k : ℕ) → Contains (x ∷ xs) k → (x ≡ k) ⊎ Contains xs k
one_of x xs k there =
    elim (Contains-append_cases (x ∷ []) xs k there) [
      | inl here ↦ elim (Contains-push_cases [] x k here) [ inl none ↦ absurd (let below = none.1 in omega arith) | inr is ↦ inl is ]
      | inr later ↦ inr later
    ]

-- what is in a set without a number is in the set, and isn't that number
pub of_without : (xs : List ℕ) (n k : ℕ) → Contains (without xs n) k → Contains xs k × (k ≡ n → ⊥)
of_without [] n k there = absurd (let below = there.1 in omega arith)
of_without (x ∷ xs) n k there = at (x == n) refl there (λ later. of_without xs n k later)
  where
    at : (b : Bool) → (x == n) ≡ b → Contains (cond (not b) (x ∷ without xs n) (without xs n)) k → (Contains (without xs n) k → Contains xs k × (k ≡ n → ⊥)) → Contains (x ∷ xs) k × (k ≡ n → ⊥)
    at true is there on = let rest = on there in (Contains-append_right (x ∷ []) xs k rest.0, rest.1)
    at false is there on =
        elim (one_of x (without xs n) k there) [
          | inl here ↦ (subst (Contains (x ∷ xs)) here (Contains-append_left (x ∷ []) xs x (Contains-push [] x)), λ same. false≢true (sym is ∙ eq-eqb x n (here ∙ same)))
          | inr later ↦ let rest = on later in (Contains-append_right (x ∷ []) xs k rest.0, rest.1)
        ]

pub to_without : (xs : List ℕ) (n k : ℕ) → Contains xs k → (k ≡ n → ⊥) → Contains (without xs n) k
to_without [] n k there differ = absurd (let below = there.1 in omega arith)
to_without (x ∷ xs) n k there differ = at (x == n) refl (one_of x xs k there) (λ later. to_without xs n k later differ)
  where
    at : (b : Bool) → (x == n) ≡ b → (x ≡ k) ⊎ Contains xs k → (Contains xs k → Contains (without xs n) k) → Contains (cond (not b) (x ∷ without xs n) (without xs n)) k
    at true is (inl here) on = absurd (differ (sym here ∙ eqb-true x n is))
    at true is (inr later) on = on later
    at false is (inl here) on = subst (Contains (x ∷ without xs n)) here (Contains-append_left (x ∷ []) (without xs n) x (Contains-push [] x))
    at false is (inr later) on = Contains-append_right (x ∷ []) (without xs n) k (on later)

module _ (IsWinning : List ℕ → Type 0) (parts : PartsWin IsWinning) where
  record IsTried (set ns left : List ℕ) : Type 0 where
    loses : IsLosing IsWinning left
    inside : IsPartOf left set
    minimal : (k : ℕ) → Contains left k → Contains ns k → IsWinning (without left k)

  tried : (ns set left : List ℕ) → IsLosing IsWinning set → Leaves IsWinning set ns left → IsTried set ns left
  tried [] set left loses same =
      record {
        loses = subst (λ (set : List ℕ). IsLosing IsWinning set) same loses;
        inside = λ k there. subst (λ (set : List ℕ). Contains set k) (sym same) there;
        minimal = λ k there none. absurd (let below = none.1 in omega arith);
      }
  tried (n ∷ ns) set left loses leaves = by_choice leaves (λ lost rest. tried ns (without set n) left lost rest) (λ rest. tried ns set left loses rest)
    where
      dropped : IsTried (without set n) ns left → IsTried set (n ∷ ns) left
      dropped rest =
          record {
            loses = rest.loses;
            inside = λ k there. (of_without set n k (rest.inside k there)).0;
            minimal = λ k there among. elim (one_of n ns k among) [
              | inl is ↦ absurd ((of_without set n k (rest.inside k there)).1 (sym is))
              | inr later ↦ rest.minimal k there later
            ];
          }

      needed : IsWinning (without set n) → IsTried set ns left → IsTried set (n ∷ ns) left
      needed won rest =
          record {
            loses = rest.loses;
            inside = rest.inside;
            minimal = λ k there among. elim (one_of n ns k among) [
              | inl is ↦ parts (without set k) (without left k) (λ m in_part. let both = of_without left k m in_part in to_without set k m (rest.inside m both.0) both.1)
                  (subst (λ (n : ℕ). IsWinning (without set n)) is won)
              | inr later ↦ rest.minimal k there later
            ];
          }

      by_choice : Leaves IsWinning set (n ∷ ns) left → (IsLosing IsWinning (without set n) → Leaves IsWinning (without set n) ns left → IsTried (without set n) ns left) → (Leaves IsWinning set ns left → IsTried set ns left) → IsTried set (n ∷ ns) left
      by_choice (inl lost) on on' = dropped (on lost.0 lost.1)
      by_choice (inr won) on on' = needed won.0 (on' won.1)

  pub left_is_core : (n : ℕ) (left : List ℕ) → IsLosing IsWinning (below n) → IsLeft IsWinning n left → IsCore IsWinning left
  left_is_core n left loses leaves =
      let end = tried (below n) (below n) left loses leaves in
      record { loses = end.loses; minimal = λ k there. end.minimal k there (end.inside k there) }

-- what is left is a set of numbers below n
pub left_is_set : (IsWinning : List ℕ → Type 0) (n : ℕ) (left : List ℕ) → IsLeft IsWinning n left → IsSetBelow n left
left_is_set IsWinning n left leaves = on (below n) (below n) (all_below n) leaves
  where
    on : (ns set : List ℕ) → IsSetBelow n set → Leaves IsWinning set ns left → IsSetBelow n left
    on [] set numbers same = subst (IsSetBelow n) same numbers
    on (m ∷ ns) set numbers leaves =
        elim leaves [
          | inl dropped ↦ on ns (without set m) (record { rises = IsStrictlyIncreasing-filter _ set numbers.rises; below = All-filter _ (λ k. k < n) set numbers.below }) dropped.1
          | inr needed ↦ on ns set numbers needed.1
        ]
