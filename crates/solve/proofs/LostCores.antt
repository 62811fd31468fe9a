-- What the judge's places say of the line numbers of a specification that is unrealizable.
use Rattle.std.proofs.Common.{◌≡◌, ℕ, ◌<◌, List, length, subst}
use Rattle.std.specs.List.{All}
use Rattle.spec_model.specs.Syntax.{Specification}
use Rattle.spec_model.specs.WellTyped.{WellTyped}
use Rattle.spec_model.specs.Cores.{Realizable, Unrealizable, guarantees_of, IsLeft}
use Rattle.core_min.specs.Sets as sets
use Rattle.core_min.proofs.Turns.{left_is_set}
use Rattle.solve.specs.Places.{at_places, part_at}
use Rattle.solve.proofs.Places.{left_at, all_lose}

-- t is the specification that is judged, which is s
module _ (s t : Specification) (is : t ≡ s) (n : ℕ) (count : n ≡ length (guarantees_of s)) where
  abbrev pub IsWon : List ℕ → Type 0
  IsWon places = Realizable (part_at t places)

  -- a fact on t and n is one on s and the number of its guarantees
  on_whole : (P : Specification → ℕ → Type 0) → P t n → P s (length (guarantees_of s))
  on_whole P p = subst (λ (u : Specification). P u (length (guarantees_of s))) is (subst (λ (k : ℕ). P t k) count p)

  pub lost_first : Unrealizable s → sets.IsLosing IsWon (sets.below n)
  lost_first lost won = all_lose s lost (on_whole (λ u k. Realizable (part_at u (sets.below k))) won)

  pub left_below : (places : List ℕ) → sets.IsLeft IsWon n places → All (λ place. place < length (guarantees_of s)) places
  left_below places left = subst (λ (k : ℕ). All (λ place. place < k) places) count (left_is_set IsWon n places left).below

  pub left_numbers : WellTyped s → (places : List ℕ) → sets.IsLeft IsWon n places → IsLeft s (at_places (guarantees_of s) places)
  left_numbers typed places left = left_at s typed places (on_whole (λ u k. sets.IsLeft (λ set. Realizable (part_at u set)) k places) left)
