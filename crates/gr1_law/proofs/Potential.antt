-- The ranks ahead are never more than all ranks, and aiming at the next goal takes its greatest rank from them.
use Rattle.std.proofs.Common.{◌≡◌, ℕ, zero, suc, ◌+◌, ◌-◌, ◌<◌, ◌≤◌, nat_le, ◌==◌, if◌then◌else◌, Bool, true, false, List, [], ◌∷◌, length, take, slice_index, sum, refl, sym, ◌∙◌, ap, subst, arith, ◌⊎◌, inl, inr}
use Rattle.std.proofs.lemmas.List.Sums.{sum_by-cons}
use borrow.Author.Tests.{leb-true, leb-false, eqb-true, eqb-false}
use Rattle.gr1_law.specs.Potential.{ranks_ahead}

-- ---- sums of the first numbers

abbrev first : List ℕ → ℕ → ℕ
first xs k = sum (take k xs)

first-suc : (xs : List ℕ) (k : ℕ) → first xs (suc k) ≡ first xs k + slice_index xs k
first-suc [] zero = refl
first-suc [] (suc k) = refl
first-suc (x ∷ xs) zero = let e = sum_by-cons (λ (n : ℕ). n) x (take 0 xs) in e ∙ omega arith
first-suc (x ∷ xs) (suc k) =
    let e = sum_by-cons (λ (n : ℕ). n) x (take (suc k) xs) in
    let e' = sum_by-cons (λ (n : ℕ). n) x (take k xs) in
    let more = first-suc xs k in
    omega (arith, e, e', more)

first-all : (xs : List ℕ) → first xs (length xs) ≡ sum xs
first-all [] = refl
first-all (x ∷ xs) = sum_by-cons (λ (n : ℕ). n) x (take (length xs) xs) ∙ (ap (λ (n : ℕ). x + n) (first-all xs) ∙ sym (sum_by-cons (λ (n : ℕ). n) x xs))

first-more : (xs : List ℕ) (k d : ℕ) → first xs k ≤ first xs (k + d)
first-more xs k zero = let e : k ≡ k + zero = omega arith in subst (λ (n : ℕ). first xs k ≤ first xs n) e (omega arith)
first-more xs k (suc d) =
    let e : suc (k + d) ≡ k + suc d = omega arith in
    subst (λ (n : ℕ). first xs k ≤ first xs n) e (omega (arith, first-more xs k d, first-suc xs (k + d)))

first-le : (xs : List ℕ) (k n : ℕ) → k ≤ n → first xs k ≤ first xs n
first-le xs k n le = let e : k + (n - k) ≡ n = omega arith in subst (λ (m : ℕ). first xs k ≤ first xs m) e (first-more xs k (n - k))

-- ---- the ranks ahead

-- by where the other goal is
ahead-later : (ranks : List ℕ) (other aim : ℕ) → aim ≤ other → ranks_ahead ranks other aim ≡ first ranks (suc other) - first ranks (suc aim)
ahead-later ranks other aim le = at (nat_le aim other) refl
  where
    at : (b : Bool) → nat_le aim other ≡ b → (if b then first ranks (suc other) - first ranks (suc aim) else (sum ranks - first ranks (suc aim)) + first ranks (suc other)) ≡ first ranks (suc other) - first ranks (suc aim)
    at true e = refl
    at false e = let more = leb-false aim other e in absurd (omega arith)

ahead-earlier : (ranks : List ℕ) (other aim : ℕ) → other < aim → ranks_ahead ranks other aim ≡ (sum ranks - first ranks (suc aim)) + first ranks (suc other)
ahead-earlier ranks other aim less = at (nat_le aim other) refl
  where
    at : (b : Bool) → nat_le aim other ≡ b → (if b then first ranks (suc other) - first ranks (suc aim) else (sum ranks - first ranks (suc aim)) + first ranks (suc other)) ≡ (sum ranks - first ranks (suc aim)) + first ranks (suc other)
    at true e = let le = leb-true aim other e in absurd (omega arith)
    at false e = refl

module _ (ranks : List ℕ) (other aim : ℕ) (other_in : other < length ranks) (aim_in : aim < length ranks) where
  order : (aim ≤ other) ⊎ (other < aim)
  order = grind arith

  -- with the greatest rank of the goal aimed at they are at most all
  pub ahead_at_most : slice_index ranks aim + ranks_ahead ranks other aim ≤ sum ranks
  ahead_at_most = by_order order
    where
      by_order : (aim ≤ other) ⊎ (other < aim) → slice_index ranks aim + ranks_ahead ranks other aim ≤ sum ranks
      by_order (inl le) =
          omega (arith, ahead-later ranks other aim le, first-suc ranks aim, first-all ranks, first-le ranks (suc aim) (suc other) (omega arith), first-le ranks (suc other) (length ranks) (omega arith))
      by_order (inr less) =
          omega (arith, ahead-earlier ranks other aim less, first-suc ranks aim, first-all ranks, first-le ranks (suc other) aim (omega arith), first-le ranks (suc aim) (length ranks) (omega arith))

  -- the next goal's greatest rank is the first of them
  pub ahead_next : (aim ≡ other → ⊥) → (next : ℕ) → next ≡ (if suc aim == length ranks then 0 else suc aim) → ranks_ahead ranks other aim ≡ slice_index ranks next + ranks_ahead ranks other next
  ahead_next differ next is = at (suc aim == length ranks) refl is
    where
      from_first : suc aim ≡ length ranks → ranks_ahead ranks other aim ≡ slice_index ranks 0 + ranks_ahead ranks other 0
      from_first end =
          let before : other < aim = grind (arith, differ, end, other_in) in
          let all : first ranks (suc aim) ≡ sum ranks = ap (first ranks) end ∙ first-all ranks in
          let some = first-le ranks 1 (suc other) (omega arith) in
          let none : first ranks 0 ≡ 0 = refl in
          omega (arith, ahead-earlier ranks other aim before, ahead-later ranks other 0 (omega arith), all, some, none, first-suc ranks 0)

      on : (suc aim ≡ length ranks → ⊥) → ranks_ahead ranks other aim ≡ slice_index ranks (suc aim) + ranks_ahead ranks other (suc aim)
      on inner = by_order order
        where
          by_order : (aim ≤ other) ⊎ (other < aim) → ranks_ahead ranks other aim ≡ slice_index ranks (suc aim) + ranks_ahead ranks other (suc aim)
          by_order (inl le) =
              let later : suc aim ≤ other = grind (arith, differ, le) in
              omega (arith, ahead-later ranks other aim le, ahead-later ranks other (suc aim) later, first-suc ranks (suc aim), first-le ranks (suc (suc aim)) (suc other) (omega arith))
          by_order (inr less) =
              let inside : suc aim < length ranks = grind (arith, inner, aim_in) in
              omega (arith, ahead-earlier ranks other aim less, ahead-earlier ranks other (suc aim) (omega arith), first-suc ranks (suc aim), first-le ranks (suc (suc aim)) (length ranks) (omega arith), first-all ranks)

      at : (b : Bool) → (suc aim == length ranks) ≡ b → next ≡ (if b then 0 else suc aim) → ranks_ahead ranks other aim ≡ slice_index ranks next + ranks_ahead ranks other next
      at true e is = subst (λ (n : ℕ). ranks_ahead ranks other aim ≡ slice_index ranks n + ranks_ahead ranks other n) (sym is) (from_first (eqb-true (suc aim) (length ranks) e))
      at false e is = subst (λ (n : ℕ). ranks_ahead ranks other aim ≡ slice_index ranks n + ranks_ahead ranks other n) (sym is) (on (eqb-false (suc aim) (length ranks) e))

-- Where something else than the other is aimed at, and the next is aimed at from there on with a rank that is at most its greatest
-- one, the rank and the ranks ahead of it are fewer together.
pub turn_lowers : (ranks : List ℕ) (other aim aim' rank rank' : ℕ) → other < length ranks → aim < length ranks → rank' ≤ slice_index ranks aim' → (aim ≡ other → ⊥) → 1 ≤ rank →
    aim' ≡ (if suc aim == length ranks then 0 else suc aim) → rank' + ranks_ahead ranks other aim' < rank + ranks_ahead ranks other aim
turn_lowers ranks other aim aim' rank rank' other_in aim_in most differ some next =
    let ahead = ahead_next ranks other aim other_in aim_in differ aim' next in
    omega (arith, ahead, most, some)
