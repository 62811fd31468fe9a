-- Guarantees that are dropped in text order leave a core.
use Rattle.std.proofs.Common.{◌≡◌, ℕ, ◌==◌, ◌||◌, ◌⊎◌, inl, inr, Bool, true, false, not, List, [], ◌∷◌, cond, filter, map, Contains, refl, sym, ◌∙◌, ap, subst, arith}
use Rattle.std.proofs.lemmas.Bool.{or_cases, or_left, or_right, false≢true}
use Rattle.std.proofs.lemmas.List.Elements.{Contains-append_cases, Contains-push_cases}
use borrow.Author.Tests.{eqb-true, eq-eqb}
use Rattle.spec_model.specs.Syntax.{Specification, Statement}
use Rattle.spec_model.specs.Moves.{is_guarantee, rules_of}
use Rattle.spec_model.specs.Verdicts.{most_rounds, most_shifts, most_denials}
use Rattle.spec_model.specs.Cores.{Realizable, Unrealizable, with_guarantees, is_in, stays, less, guarantees_of, Leaves, IsLeft, IsCore}
use Rattle.spec_model.proofs.Duel.{never_both}
use Rattle.spec_model.proofs.Fewer.{realizable_with_fewer}
use Rattle.gr1_law.specs.CoreLaws.{IsSolvable, PartStaysRealizable}
use Rattle.gr1_law.specs.Specifications.{OneIsTrue}
use Rattle.gr1_law.proofs.OneSide.{one_is_true}

pub part_stays : (s : Specification) → PartStaysRealizable s
part_stays s kept part solvable inside realizable = by_one (one_is_true (with_guarantees s part) solvable.game solvable.agrees solvable.made solvable.rises)
  where
    by_one : OneIsTrue (with_guarantees s part) → Realizable (with_guarantees s part)
    by_one (inl won) = won
    by_one (inr lost) =
        absurd (never_both (rules_of (with_guarantees s part)) (most_rounds (with_guarantees s kept)) (most_shifts (with_guarantees s part)) (most_denials (with_guarantees s part))
        (realizable_with_fewer s kept part (most_rounds (with_guarantees s kept)) inside realizable) lost)

-- ---- lists of numbers

-- what is in a list without a number is in the list, and isn't that number
of_less : (ns : List ℕ) (n k : ℕ) → is_in (less ns n) k ≡ true → (is_in ns k ≡ true) × (k ≡ n → ⊥)
of_less [] n k e = absurd (false≢true e)
of_less (m ∷ ns) n k e = at (m == n) refl e (of_less ns n k)
  where
    at : (b : Bool) → (m == n) ≡ b → is_in (cond (not b) (m ∷ less ns n) (less ns n)) k ≡ true → (is_in (less ns n) k ≡ true → (is_in ns k ≡ true) × (k ≡ n → ⊥)) → (((m == k) || is_in ns k) ≡ true) × (k ≡ n → ⊥)
    at true is e later = let rest = later e in (or_right (m == k) (is_in ns k) rest.0, rest.1)
    at false is e later =
        elim (or_cases (m == k) (is_in (less ns n) k) e) [
          | inl here ↦ (or_left (m == k) (is_in ns k) here, λ same. false≢true (sym is ∙ eq-eqb m n (eqb-true m k here ∙ same)))
          | inr there ↦ let rest = later there in (or_right (m == k) (is_in ns k) rest.0, rest.1)
        ]

to_less : (ns : List ℕ) (n k : ℕ) → is_in ns k ≡ true → (k ≡ n → ⊥) → is_in (less ns n) k ≡ true
to_less [] n k e differ = absurd (false≢true e)
to_less (m ∷ ns) n k e differ = at (m == n) refl (or_cases (m == k) (is_in ns k) e) (λ there. to_less ns n k there differ)
  where
    at : (b : Bool) → (m == n) ≡ b → ((m == k) ≡ true) ⊎ (is_in ns k ≡ true) → (is_in ns k ≡ true → is_in (less ns n) k ≡ true) → is_in (cond (not b) (m ∷ less ns n) (less ns n)) k ≡ true
    at true is (inl here) later = absurd (differ (sym (eqb-true m k here) ∙ eqb-true m n is))
    at true is (inr there) later = later there
    at false is (inl here) later = or_left (m == k) (is_in (less ns n) k) here
    at false is (inr there) later = or_right (m == k) (is_in (less ns n) k) (later there)

contained : (ns : List ℕ) (n : ℕ) → Contains ns n → is_in ns n ≡ true
contained [] n here = absurd (let below = here.1 in omega arith)
contained (m ∷ ns) n here =
    elim (Contains-append_cases (m ∷ []) ns n here) [
      | inl first ↦ elim (Contains-push_cases [] m n first) [ inl none ↦ absurd (let below = none.1 in omega arith) | inr is ↦ or_left (m == n) (is_in ns n) (eq-eqb m n is) ]
      | inr later ↦ or_right (m == n) (is_in ns n) (contained ns n later)
    ]

-- ---- all guarantees

-- a list that has the number of each guarantee among the lines keeps them all
all_stay : (ns : List ℕ) (ls : List Statement) → ((k : ℕ) → is_in (map (λ (l : Statement). l.number) (filter (λ (l : Statement). is_guarantee l.role) ls)) k ≡ true → is_in ns k ≡ true) → filter (stays ns) ls ≡ ls
all_stay ns [] has = refl
all_stay ns (l ∷ ls) has = at (is_guarantee l.role) has (λ more. all_stay ns ls more)
  where
    numbers : List ℕ
    numbers = map (λ (l : Statement). l.number) (filter (λ (l : Statement). is_guarantee l.role) ls)

    at : (b : Bool) → ((k : ℕ) → is_in (map (λ (l : Statement). l.number) (cond b (l ∷ filter (λ (l : Statement). is_guarantee l.role) ls) (filter (λ (l : Statement). is_guarantee l.role) ls))) k ≡ true → is_in ns k ≡ true) →
        (((k : ℕ) → is_in (map (λ (l : Statement). l.number) (filter (λ (l : Statement). is_guarantee l.role) ls)) k ≡ true → is_in ns k ≡ true) → filter (stays ns) ls ≡ ls) → cond (not b || is_in ns l.number) (l ∷ filter (stays ns) ls) (filter (stays ns) ls) ≡ l ∷ ls
    at true has rest =
        ap (λ (b : Bool). cond b (l ∷ filter (stays ns) ls) (filter (stays ns) ls)) (has l.number (or_left (l.number == l.number) _ (eq-eqb l.number l.number refl)))
        ∙ ap (λ (ls : List Statement). l ∷ ls) (rest (λ k there. has k (or_right (l.number == k) _ there)))
    at false has rest = ap (λ (ls : List Statement). l ∷ ls) (rest has)

all_kept : (s : Specification) → with_guarantees s (guarantees_of s) ≡ s
all_kept s = ap (λ (ls : List Statement). record s { lines = ls }) (all_stay (guarantees_of s) s.lines (λ k there. there))

-- ---- trying in order

module _ (s : Specification) (solvable : (kept : List ℕ) → IsSolvable (with_guarantees s kept)) where
  record IsTried (kept ns left : List ℕ) : Type 0 where
    loses : Unrealizable (with_guarantees s left)
    inside : (k : ℕ) → is_in left k ≡ true → is_in kept k ≡ true
    minimal : (k : ℕ) → is_in left k ≡ true → is_in ns k ≡ true → Realizable (with_guarantees s (less left k))

  tried : (ns kept left : List ℕ) → Unrealizable (with_guarantees s kept) → Leaves s kept ns left → IsTried kept ns left
  tried [] kept left loses same =
      record {
        loses = subst (λ (kept : List ℕ). Unrealizable (with_guarantees s kept)) same loses;
        inside = λ k there. subst (λ (kept : List ℕ). is_in kept k ≡ true) (sym same) there;
        minimal = λ k there none. absurd (false≢true none);
      }
  tried (n ∷ ns) kept left loses leaves = by_choice leaves (λ lost rest. tried ns (less kept n) left lost rest) (λ rest. tried ns kept left loses rest)
    where
      dropped : IsTried (less kept n) ns left → IsTried kept (n ∷ ns) left
      dropped rest =
          record {
            loses = rest.loses;
            inside = λ k there. (of_less kept n k (rest.inside k there)).0;
            minimal = λ k there among. elim (or_cases (n == k) (is_in ns k) among) [
              | inl is ↦ absurd ((of_less kept n k (rest.inside k there)).1 (sym (eqb-true n k is)))
              | inr later ↦ rest.minimal k there later
            ];
          }

      without : (k : ℕ) → n ≡ k → Realizable (with_guarantees s (less kept n)) → IsTried kept ns left → Realizable (with_guarantees s (less left k))
      without k is won rest =
          part_stays s (less kept k) (less left k) (solvable (less left k)) (λ m there. let parts = of_less left k m there in to_less kept k m (rest.inside m parts.0) parts.1)
          (subst (λ (n : ℕ). Realizable (with_guarantees s (less kept n))) is won)

      needed : Realizable (with_guarantees s (less kept n)) → IsTried kept ns left → IsTried kept (n ∷ ns) left
      needed won rest =
          record {
            loses = rest.loses;
            inside = rest.inside;
            minimal = λ k there among. elim (or_cases (n == k) (is_in ns k) among) [
              | inl is ↦ without k (eqb-true n k is) won rest
              | inr later ↦ rest.minimal k there later
            ];
          }

      by_choice : Leaves s kept (n ∷ ns) left → (Unrealizable (with_guarantees s (less kept n)) → Leaves s (less kept n) ns left → IsTried (less kept n) ns left) → (Leaves s kept ns left → IsTried kept ns left) → IsTried kept (n ∷ ns) left
      by_choice (inl lost) on on' = dropped (on lost.0 lost.1)
      by_choice (inr won) on on' = needed won.0 (on' won.1)

  pub left_is_core : (left : List ℕ) → Unrealizable s → IsLeft s left → IsCore s left
  left_is_core left loses leaves =
      let end = tried (guarantees_of s) (guarantees_of s) left (subst Unrealizable (sym (all_kept s)) loses) leaves in
      record { loses = end.loses; minimal = λ k here. let there = contained left k here in end.minimal k there (end.inside k there) }
