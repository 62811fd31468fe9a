-- What is held as sets, one of several, and what stays.
use Rattle.std.proofs.Common.{◌≡◌, ℕ, zero, suc, ◌<◌, List, [], ◌∷◌, length, get_or, refl, sym, ◌∙◌, subst, arith}
use Rattle.spec_model.specs.Sets.{StateSet}
use Rattle.regions.specs.Kept.{Kept, Item, Region, Move, Meaning, States, HasRegion, HasMove, IsHeldAs, Stays, IsSameGame}
use Rattle.strategy_parts.specs.Owned.{RegionsAre}

module _ {R M : Type 0} where
  pub stays_then : (a b c : Kept R M) → Stays a b → Stays b c → Stays a c
  stays_then a b c first second = record { held = λ w. omega (arith, first.held w, second.held w); jam = second.jam ∙ first.jam }

  pub same_then : (a b c : Kept R M) → IsSameGame a b → IsSameGame b c → IsSameGame a c
  same_then a b c first second = record { game = second.game ∙ first.game; bound = second.bound ∙ first.bound }

  pub nothing_done : (k : Kept R M) → Stays k k
  nothing_done k = record { held = λ w. omega arith; jam = refl }

  pub same_game : (k : Kept R M) → IsSameGame k k
  same_game k = record { game = refl; bound = refl }

  pub held_stays : (old new : Kept R M) (i : Item R M) (m : Meaning) → Stays old new → IsHeldAs old i m → IsHeldAs new i m
  held_stays old new i m stays here w = omega (arith, here w, stays.held w)

  pub has_region : (k : Kept R M) (r : R) (m : Meaning) → IsHeldAs k (Region r) m → HasRegion k r
  has_region k r m here w = here (λ i m. w i)

  pub has_move : (k : Kept R M) (r : M) (m : Meaning) → IsHeldAs k (Move r) m → HasMove k r
  has_move k r m here w = here (λ i m. w i)

  pub regions_stay : (old new : Kept R M) (rs : List R) (sets : ℕ → StateSet) → Stays old new → RegionsAre old rs sets → RegionsAre new rs sets
  regions_stay old new [] sets stays all = tt
  regions_stay old new (r ∷ rs) sets stays all = (held_stays old new (Region r) (States (sets 0)) stays all.0, regions_stay old new rs (λ i. sets (suc i)) stays all.1)

  -- ---- one of several

  pub region_at : (k : Kept R M) (rs : List R) (sets : ℕ → StateSet) → RegionsAre k rs sets → (i : ℕ) → i < length rs → (r : R) → r ≡ get_or rs i r → IsHeldAs k (Region r) (States (sets i))
  region_at k [] sets all i below r is = absurd (omega arith)
  region_at k (q ∷ rs) sets all zero below r is = subst (λ (p : R). IsHeldAs k (Region p) (States (sets 0))) (sym is) all.0
  region_at k (q ∷ rs) sets all (suc i) below r is = region_at k rs (λ i. sets (suc i)) all.1 i (omega arith) r is
