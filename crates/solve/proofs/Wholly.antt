-- Each part of a well-typed specification is solved, and one side wins it.
use Rattle.std.proofs.Common.{◌≡◌, ◌==◌, ◌||◌, ◌⊎◌, inl, inr, ℕ, Bool, true, false, not, List, [], ◌∷◌, ◌++◌, cond, filter, map, refl, sym, ◌∙◌, ap, subst}
use Rattle.std.proofs.lemmas.Bool.{eq-eqb, or_left, or_right, or_cases, false≢true}
use Rattle.spec_model.specs.Syntax.{Specification, Statement}
use Rattle.spec_model.specs.Moves.{is_guarantee, rules_of}
use Rattle.spec_model.specs.Verdicts.{most_rounds, most_shifts, most_denials}
use Rattle.spec_model.specs.Cores.{Realizable, Unrealizable, with_guarantees, stays, is_in, guarantees_of}
use Rattle.spec_model.proofs.Duel.{never_both}
use Rattle.spec_model.proofs.Growth.{realizable_grows, unrealizable_grows}
use Rattle.gr1_law.specs.CoreLaws.{IsSolvable}
use Rattle.gr1_law.proofs.CoreTrials.{part_stays}
use Rattle.gr1_law.proofs.OneSide.{one_is_true}
use Rattle.solve.specs.Winners.{IsWonBySystem, IsWonByEnvironment}

pub one_wins : (s : Specification) → IsSolvable s → Realizable s ⊎ Unrealizable s
one_wins s solvable = one_is_true s solvable.game solvable.agrees solvable.made solvable.rises

pub not_both : (s : Specification) → Unrealizable s → Realizable s → ⊥
not_both s lost won = never_both (rules_of s) (most_rounds s) (most_shifts s) (most_denials s) won lost

-- what doesn't win loses
pub loses : (s : Specification) → IsSolvable s → (Realizable s → ⊥) → Unrealizable s
loses s solvable fails = elim (one_wins s solvable) [ inl won ↦ absurd (fails won) | inr lost ↦ lost ]

-- the numbers of a verdict are within the bounds
pub won_within : (s : Specification) (k : ℕ) → IsWonBySystem s k → Realizable s
won_within s k won = realizable_grows (rules_of s) k (most_rounds s) won.wins.bound won.wins.realizable

pub lost_within : (s : Specification) (n m : ℕ) → IsWonByEnvironment s n m → Unrealizable s
lost_within s n m lost = unrealizable_grows (rules_of s) n (most_shifts s) m (most_denials s) lost.wins.shifts lost.wins.denials lost.wins.unrealizable

-- ---- all guarantees

-- a list that has the number of each guarantee among the lines keeps them all
all_stay : (ns : List ℕ) (ls : List Statement) → ((k : ℕ) → is_in (map (λ l. l.number) (filter (λ l. is_guarantee l.role) ls)) k ≡ true → is_in ns k ≡ true) → filter (stays ns) ls ≡ ls
all_stay ns [] has = refl
all_stay ns (l ∷ ls) has = at (is_guarantee l.role) has (λ more. all_stay ns ls more)
  where
    guarantees : List Statement
    guarantees = filter (λ l. is_guarantee l.role) ls

    at : (b : Bool) → ((k : ℕ) → is_in (map (λ l. l.number) (cond b (l ∷ guarantees) guarantees)) k ≡ true → is_in ns k ≡ true) →
        (((k : ℕ) → is_in (map (λ l. l.number) guarantees) k ≡ true → is_in ns k ≡ true) → filter (stays ns) ls ≡ ls) → cond (not b || is_in ns l.number) (l ∷ filter (stays ns) ls) (filter (stays ns) ls) ≡ l ∷ ls
    at true has rest =
        ap (λ (b : Bool). cond b (l ∷ filter (stays ns) ls) (filter (stays ns) ls)) (has l.number (or_left (l.number == l.number) _ (eq-eqb l.number l.number refl)))
        ∙ ap (λ (ls : List Statement). l ∷ ls) (rest (λ k there. has k (or_right (l.number == k) _ there)))
    at false has rest = ap (λ (ls : List Statement). l ∷ ls) (rest has)

pub all_kept : (s : Specification) → with_guarantees s (guarantees_of s) ≡ s
all_kept s = ap (λ (ls : List Statement). record s { lines = ls }) (all_stay (guarantees_of s) s.lines (λ k there. there))

-- ---- a part of all guarantees

in_later : (ns ms : List ℕ) (k : ℕ) → is_in ms k ≡ true → is_in (ns ++ ms) k ≡ true
in_later [] ms k there = there
in_later (n ∷ ns) ms k there = or_right (n == k) (is_in (ns ++ ms) k) (in_later ns ms k there)

in_earlier : (ns ms : List ℕ) (k : ℕ) → is_in ns k ≡ true → is_in (ns ++ ms) k ≡ true
in_earlier [] ms k there = absurd (false≢true there)
in_earlier (n ∷ ns) ms k there = elim (or_cases (n == k) (is_in ns k) there) [
  | inl here ↦ or_left (n == k) (is_in (ns ++ ms) k) here
  | inr rest ↦ or_right (n == k) (is_in (ns ++ ms) k) (in_earlier ns ms k rest)
]

pub part_of_whole : (s : Specification) (part : List ℕ) → IsSolvable (with_guarantees s part) → Realizable s → Realizable (with_guarantees s part)
part_of_whole s part solvable won =
    let more : List ℕ = part ++ guarantees_of s in
    let all : with_guarantees s more ≡ s = ap (λ (ls : List Statement). record s { lines = ls }) (all_stay more s.lines (λ k there. in_later part (guarantees_of s) k there)) in
    part_stays s more part solvable (λ k there. in_earlier part (guarantees_of s) k there) (subst Realizable (sym all) won)
