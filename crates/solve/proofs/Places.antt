-- What trying the places of the guarantees leaves is what trying their line numbers leaves.
use Rattle.std.proofs.Common.{◌≡◌, ◌==◌, ◌⊎◌, inl, inr, ℕ, zero, suc, ◌+◌, ◌<◌, ◌≤◌, Bool, true, false, not, List, [], ◌∷◌, length, get_or, cond, filter, map, refl, sym, ◌∙◌, ap, subst, arith}
use Rattle.std.specs.List.{All, AllPairs, range_with_len}
use Rattle.std.proofs.lemmas.Bool.{eq-eqb, eqb-true, ne_eqb, cases_eq, cases_order}
use Rattle.std.proofs.lemmas.List.Elements.{All-nil, All-cons, All-head, All-tail, All-filter, All-map, All-from_get_or}
use Rattle.std.proofs.lemmas.List.Kept.{AllPairs-cons}
use Rattle.std.proofs.lemmas.List.FromFn.{length-range_with_len, get_or-range_with_len, fill_by_all}
use Rattle.spec_model.specs.Syntax.{Specification, Statement}
use Rattle.spec_model.specs.Moves.{is_guarantee}
use Rattle.spec_model.specs.WellTyped.{WellTyped}
use Rattle.spec_model.specs.Laws.{NumbersRise}
use Rattle.spec_model.specs.Cores.{Realizable, Unrealizable, with_guarantees, less, guarantees_of, Leaves, IsLeft}
use Rattle.spec_model.specs.Needs.{AskedFrom}
use Rattle.core_min.specs.Sets as sets
use Rattle.solve.specs.Places.{at_places, part_at, solvable}
use Rattle.solve.proofs.Wholly.{loses, not_both, all_kept}
use Rattle.hidden_game.proofs.MadeGames.{lines_rise}

-- ---- line numbers differ

numbers_rise : (ls : List Statement) → NumbersRise ls → AllPairs (λ m n. m < n) (map (λ l. l.number) (filter (λ l. is_guarantee l.role) ls))
numbers_rise [] rises = λ i j d order inside. absurd (omega (arith, inside))
numbers_rise (l ∷ ls) rises = at (is_guarantee l.role) (numbers_rise ls rises.1)
  where
    later : List Statement
    later = filter (λ l. is_guarantee l.role) ls

    at : (b : Bool) → AllPairs (λ m n. m < n) (map (λ l. l.number) later) → AllPairs (λ m n. m < n) (map (λ l. l.number) (cond b (l ∷ later) later))
    at true rest = AllPairs-cons (λ m n. m < n) l.number (map (λ l. l.number) later) (All-map (λ n. l.number < n) (λ l. l.number) later (All-filter (λ l. is_guarantee l.role) (λ other. l.number < other.number) ls rises.0)) rest
    at false rest = rest

same_place : (ns : List ℕ) → AllPairs (λ m n. m < n) ns → (i j : ℕ) → i < length ns → j < length ns → get_or ns i 0 ≡ get_or ns j 0 → i ≡ j
same_place ns rises i j first second same =
    elim (cases_order i j) [
      | inl is ↦ is
      | inr (inl less) ↦ absurd (let below = rises i j 0 less second in omega (arith, below, same))
      | inr (inr more) ↦ absurd (let below = rises j i 0 more first in omega (arith, below, same))
    ]

-- ---- places and numbers

module _ (ns : List ℕ) (rises : AllPairs (λ m n. m < n) ns) where
  same_test : (i j : ℕ) → i < length ns → j < length ns → (get_or ns i 0 == get_or ns j 0) ≡ (i == j)
  same_test i j first second =
      elim (cases_eq i j) [
        | inl is ↦ eq-eqb _ _ (ap (λ k. get_or ns k 0) is) ∙ sym (eq-eqb i j is)
        | inr differ ↦ ne_eqb (get_or ns i 0) (get_or ns j 0) (λ same. differ (same_place ns rises i j first second same)) ∙ sym (ne_eqb i j differ)
      ]

  pub less_at : (set : List ℕ) (p : ℕ) → All (λ q. q < length ns) set → p < length ns → less (at_places ns set) (get_or ns p 0) ≡ at_places ns (sets.without set p)
  less_at [] p inside there = refl
  less_at (q ∷ set) p inside there =
      ap (λ (b : Bool). cond (not b) (get_or ns q 0 ∷ less (at_places ns set) (get_or ns p 0)) (less (at_places ns set) (get_or ns p 0))) (same_test q p (All-head (λ q. q < length ns) q set inside) there)
      ∙ at (q == p) (less_at set p (All-tail (λ q. q < length ns) q set inside) there)
    where
      at : (b : Bool) → less (at_places ns set) (get_or ns p 0) ≡ at_places ns (sets.without set p) →
          cond (not b) (get_or ns q 0 ∷ less (at_places ns set) (get_or ns p 0)) (less (at_places ns set) (get_or ns p 0)) ≡ at_places ns (cond (not b) (q ∷ sets.without set p) (sets.without set p))
      at true rest = rest
      at false rest = ap (λ (ms : List ℕ). get_or ns q 0 ∷ ms) rest

pub at_all : (ns : List ℕ) → at_places ns (sets.below (length ns)) ≡ ns
at_all ns = sym (fill_by_all (λ p. get_or ns p 0) ns (length ns) 0 refl (λ k inside. refl))

all_inside : (n : ℕ) → All (λ p. p < n) (sets.below n)
all_inside n = All-from_get_or (λ p. p < n) (sets.below n) 0 (λ i h.
    let inside : i < n = subst (λ (m : ℕ). i < m) (length-range_with_len 0 n) h in
    rw (get_or-range_with_len 0 n i 0 inside) (omega (arith, inside)))

-- ---- trying

module _ (s : Specification) (typed : WellTyped s) where
  abbrev IsPlace : ℕ → Type 0
  IsPlace p = p < length (guarantees_of s)

  abbrev IsWinning : List ℕ → Type 0
  IsWinning set = Realizable (part_at s set)

  is_less : (set : List ℕ) (p : ℕ) → All IsPlace set → IsPlace p → less (at_places (guarantees_of s) set) (get_or (guarantees_of s) p 0) ≡ at_places (guarantees_of s) (sets.without set p)
  is_less set p inside there = less_at (guarantees_of s) (numbers_rise s.lines (lines_rise s typed)) set p inside there

  lost_at : (set : List ℕ) (p : ℕ) → All IsPlace set → IsPlace p → sets.IsLosing IsWinning (sets.without set p) → Unrealizable (with_guarantees s (less (at_places (guarantees_of s) set) (get_or (guarantees_of s) p 0)))
  lost_at set p inside there lost = subst (λ (ns : List ℕ). Unrealizable (with_guarantees s ns)) (sym (is_less set p inside there)) (loses (part_at s (sets.without set p)) (solvable s typed _) lost)

  won_at : (set : List ℕ) (p : ℕ) → All IsPlace set → IsPlace p → IsWinning (sets.without set p) → Realizable (with_guarantees s (less (at_places (guarantees_of s) set) (get_or (guarantees_of s) p 0)))
  won_at set p inside there won = subst (λ (ns : List ℕ). Realizable (with_guarantees s ns)) (sym (is_less set p inside there)) won

  leaves : (ps set left : List ℕ) → All IsPlace ps → All IsPlace set → sets.Leaves IsWinning set ps left → Leaves s (at_places (guarantees_of s) set) (at_places (guarantees_of s) ps) (at_places (guarantees_of s) left)
  leaves [] set left among inside same = ap (at_places (guarantees_of s)) same
  leaves (p ∷ ps) set left among inside tried =
      let there = All-head IsPlace p ps among in
      let rest = All-tail IsPlace p ps among in
      elim tried [
        | inl dropped ↦ inl (lost_at set p inside there dropped.0, subst (λ (ns : List ℕ). Leaves s ns (at_places (guarantees_of s) ps) (at_places (guarantees_of s) left)) (sym (is_less set p inside there)) (leaves ps (sets.without set p) left rest (All-filter _ IsPlace set inside) dropped.1))
        | inr needed ↦ inr (won_at set p inside there needed.0, leaves ps set left rest inside needed.1)
      ]

  asks : (ps set asked : List ℕ) → All IsPlace ps → All IsPlace set → sets.AsksFrom IsWinning set ps asked → AskedFrom s (at_places (guarantees_of s) set) (at_places (guarantees_of s) ps) (part_at s asked)
  asks [] set asked among inside none = none
  asks (p ∷ ps) set asked among inside tried =
      let there = All-head IsPlace p ps among in
      let rest = All-tail IsPlace p ps among in
      elim tried [
        | inl here ↦ inl (ap (λ (ns : List ℕ). with_guarantees s ns) (ap (at_places (guarantees_of s)) (sym here) ∙ sym (is_less set p inside there)))
        | inr (inl dropped) ↦ inr (inl (lost_at set p inside there dropped.0, subst (λ (ns : List ℕ). AskedFrom s ns (at_places (guarantees_of s) ps) (part_at s asked)) (sym (is_less set p inside there)) (asks ps (sets.without set p) asked rest (All-filter _ IsPlace set inside) dropped.1)))
        | inr (inr needed) ↦ inr (inr (won_at set p inside there needed.0, asks ps set asked rest inside needed.1))
      ]

  pub left_at : (left : List ℕ) → sets.IsLeft IsWinning (length (guarantees_of s)) left → IsLeft s (at_places (guarantees_of s) left)
  left_at left tried =
      let all : List ℕ = sets.below (length (guarantees_of s)) in
      subst (λ (ns : List ℕ). Leaves s ns ns (at_places (guarantees_of s) left)) (at_all (guarantees_of s)) (leaves all all left (all_inside _) (all_inside _) tried)

  pub asked_at : (asked : List ℕ) → sets.IsAsked IsWinning (length (guarantees_of s)) asked → AskedFrom s (guarantees_of s) (guarantees_of s) (part_at s asked)
  asked_at asked tried =
      let all : List ℕ = sets.below (length (guarantees_of s)) in
      subst (λ (ns : List ℕ). AskedFrom s ns ns (part_at s asked)) (at_all (guarantees_of s)) (asks all all asked (all_inside _) (all_inside _) tried)

-- all guarantees are those of the specification
pub all_lose : (s : Specification) → Unrealizable s → sets.IsLosing (λ places. Realizable (part_at s places)) (sets.below (length (guarantees_of s)))
all_lose s lost won = not_both s lost (subst Realizable (ap (λ (ns : List ℕ). with_guarantees s ns) (at_all (guarantees_of s)) ∙ all_kept s) won)
