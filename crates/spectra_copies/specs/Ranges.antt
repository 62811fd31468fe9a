-- The ranges of quantifiers, and the numbers of their variables.
use Rattle.std.specs.Prelude.{ℕ, zero, suc, ◌+◌, ℤ, pos, ◌+ℤ◌, ◌-ℤ◌, int_le, int_lt, nat_abs, Bool, ◌&&◌, if◌then◌else◌, List, [], ◌∷◌, Option, Some, None}
use Rattle.spectra_resolved.specs.declared.spot.Spot.{Spot}
use Rattle.spectra_resolved.specs.Spots.{same_place}
pub use Rattle.spectra_copies.specs.declared.ranges.Bound.{Bound}
pub use Rattle.spectra_copies.specs.declared.ranges.Range.{Range}
use Rattle.spectra_copies.specs.declared.ranges.Range.TheVariants as ranges

-- the numbers from one to another are one at least, and 256 at most
abbrev pub is_short : ℤ → ℤ → Bool
is_short low high = int_le low high && int_lt (high -ℤ low) (pos 256)

abbrev pub range_of : (low high : Option ℤ) → Range
range_of (Some low) (Some high) = if is_short low high then ranges.Right low high else ranges.Wrong
range_of (Some low) None = ranges.Open
range_of None high = ranges.Open

abbrev pub numbers_from : ℤ → (count : ℕ) → List ℤ
numbers_from low zero = []
numbers_from low (suc n) = low ∷ numbers_from (low +ℤ pos 1) n

abbrev pub numbers_between : (low high : ℤ) → List ℤ
numbers_between low high = if int_le low high then numbers_from low (nat_abs (high -ℤ low) + 1) else []

-- the number of a variable, the innermost of which is the last
abbrev pub number_or : Option ℤ → List Bound → Spot → Option ℤ
number_or number [] at = number
number_or number (b ∷ bs) at = number_or (if same_place b.at at then Some b.number else number) bs at

abbrev pub number_at : List Bound → Spot → Option ℤ
number_at bs at = number_or None bs at
