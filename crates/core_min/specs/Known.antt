-- Sets that are known to lose, beside the one whose numbers are tried.
use Rattle.std.specs.Prelude.{ℕ, ◌≤◌, nat_le, nat_lt, Bool, ◌&&◌, ◌||◌, List, vec_capacity}
use Rattle.core_min.specs.declared.losing.Losing.{Losing}
use Rattle.core_min.specs.declared.losing.Guess.{Guess}
use Rattle.core_min.specs.Sets.{IsSetBelow, IsPartOf, IsLosing}
use Rattle.core_min.specs.Judges.{IsSameJudge}

-- a guess has the number
abbrev pub is_picked : Guess → ℕ → Bool
is_picked guess n = nat_lt n guess.kept || ((nat_le guess.from n && nat_lt n guess.to) || nat_le guess.on n)

module _ {J : Type 0} where
  -- the set loses, and there is room for any set
  pub record IsKnown (size : J → ℕ) (IsWinning : J → List ℕ → Type 0) (j : J) (losing : Losing) : Type 0 where
    pub numbers : IsSetBelow (size j) losing.lost.items
    pub loses : IsLosing (IsWinning j) losing.lost.items
    pub room : size j ≤ vec_capacity losing.lost
    pub part_room : size j ≤ vec_capacity losing.part

  -- Questions that are no more than guesses leave the judge the same, and a part that loses.
  pub record Guesses {F : Type 0} (size : J → ℕ) (IsWinning : J → List ℕ → Type 0) (MayFail : J → List ℕ → F → Type 0) (faults : J → ℕ) (old new : J) (before after : Losing) : Type 0 where
    pub same : IsSameJudge size IsWinning MayFail faults old new
    pub known : IsKnown size IsWinning new after
    pub inside : IsPartOf after.lost.items before.lost.items
