-- The numbers that digits write.
use Rattle.std.specs.Prelude.{ℕ, ◌+◌, ◌-◌, ◌*◌, min, ℤ, pos, neg_ℤ, Bool, if◌then◌else◌, List, [], ◌∷◌}

abbrev pub written_after : ℕ → List ℕ → ℕ
written_after n [] = n
written_after n (c ∷ cs) = written_after (n * 10 + (c - 48)) cs

-- the least number past all that are allowed
abbrev pub beyond : ℕ
beyond = 1_000_000_000_001

-- the number that digits write; one that is too great counts as the least of those
abbrev pub number_of : List ℕ → ℤ
number_of digits = pos (min (written_after 0 digits) beyond)

abbrev pub signed : (negative : Bool) → List ℕ → ℤ
signed negative digits = if negative then neg_ℤ (number_of digits) else number_of digits
