-- What a verdict line says of a specification: who wins, and within which bounds its numbers are.
use Rattle.std.specs.Prelude.{ℕ, ◌+◌, ◌*◌, ◌≤◌, max, length}
use Rattle.spec_model.specs.Syntax.{Specification}
use Rattle.spec_model.specs.Moves.{is_assumption, is_guarantee, goals_of, rules_of}
use Rattle.spec_model.specs.Realizable.{IsRealizable}
use Rattle.spec_model.specs.Unrealizable.{IsUnrealizable}
use Rattle.spec_model.specs.Sizes.{size_of}

-- the greatest numbers that are printed: of rounds, of shifts, and of denials in a row
abbrev pub most_rounds : Specification → ℕ
most_rounds s = 1 + max 1 (length (goals_of is_guarantee s)) * size_of s

abbrev pub most_shifts : Specification → ℕ
most_shifts s = size_of s

abbrev pub most_denials : Specification → ℕ
most_denials s = 1 + max 1 (length (goals_of is_assumption s)) * size_of s

-- the system wins with K rounds
pub record SystemWins (s : Specification) (k : ℕ) : Type 0 where
  pub realizable : IsRealizable (rules_of s) k
  pub bound : k ≤ most_rounds s

-- the environment wins with N shifts and M denials in a row
pub record EnvironmentWins (s : Specification) (n m : ℕ) : Type 0 where
  pub unrealizable : IsUnrealizable (rules_of s) n m
  pub shifts : n ≤ most_shifts s
  pub denials : m ≤ most_denials s
