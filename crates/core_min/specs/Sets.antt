-- Sets of numbers, which of them win, and what trying to drop each number leaves.
use Rattle.std.specs.Prelude.{◌≡◌, ◌==◌, ◌⊎◌, ℕ, ◌<◌, not, List, [], ◌∷◌, All, Contains, filter}
use Rattle.std.specs.List.{range_with_len}
use Rattle.std.specs.List.Sorted.{IsStrictlyIncreasing}

-- the numbers below n, in rising order
abbrev pub below : ℕ → List ℕ
below n = range_with_len 0 n

-- a set without one of its numbers
abbrev pub without : List ℕ → ℕ → List ℕ
without set n = filter (λ m. not (m == n)) set

-- the numbers rise, and each is below the size
pub record IsSetBelow (size : ℕ) (set : List ℕ) : Type 0 where
  pub rises : IsStrictlyIncreasing set
  pub below : All (λ n. n < size) set

-- each number of the part is in the set
abbrev pub IsPartOf : List ℕ → List ℕ → Type 0
IsPartOf part set = (n : ℕ) → Contains part n → Contains set n

-- a set that wins has only parts that win
abbrev pub PartsWin : (List ℕ → Type 0) → Type 0
PartsWin IsWinning = (set part : List ℕ) → IsPartOf part set → IsWinning set → IsWinning part

module _ (IsWinning : List ℕ → Type 0) where
  abbrev pub IsLosing : List ℕ → Type 0
  IsLosing set = IsWinning set → ⊥

  -- It loses, and without any one of its numbers it wins.
  pub record IsCore (core : List ℕ) : Type 0 where
    pub loses : IsLosing core
    pub minimal : (n : ℕ) → Contains core n → IsWinning (without core n)

  -- From a set each of the numbers is dropped in turn where the set loses without it. What is left is the last set.
  abbrev pub Leaves : List ℕ → List ℕ → List ℕ → Type 0
  Leaves set [] left = set ≡ left
  Leaves set (n ∷ ns) left =
      IsLosing (without set n) × Leaves (without set n) ns left ⊎ IsWinning (without set n) × Leaves set ns left

  -- the set is asked about on the way
  abbrev pub AsksFrom : List ℕ → List ℕ → List ℕ → Type 0
  AsksFrom set [] asked = ⊥
  AsksFrom set (n ∷ ns) asked =
      (without set n ≡ asked)
      ⊎ (IsLosing (without set n) × AsksFrom (without set n) ns asked ⊎ IsWinning (without set n) × AsksFrom set ns asked)

  -- what is left of all numbers, and the sets that are asked about
  abbrev pub IsLeft : ℕ → List ℕ → Type 0
  IsLeft n left = Leaves (below n) (below n) left

  abbrev pub IsAsked : ℕ → List ℕ → Type 0
  IsAsked n asked = AsksFrom (below n) (below n) asked
