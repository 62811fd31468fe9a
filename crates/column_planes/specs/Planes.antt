-- Planes: a bit for each of many positions, 64 of them to a word.
use Rattle.std.specs.Prelude.{◌≡◌, ◌==◌, ℕ, ◌<◌, ◌≤◌, ◌/◌, ◌%◌, Bool, true, false, not, List, Option, Some, None, slice_index, take, length}
use Rattle.std.specs.Int.{bit_at}

-- the bit with a number is in the word that 64 goes into it so many times, at the rest
abbrev pub bit_in : List ℕ → ℕ → Bool
bit_in words i = bit_at (slice_index words (i / 64)) (i % 64) == 1

-- the least number below a bound whose bit is 0
abbrev pub IsFirstZero : List ℕ → (bits : ℕ) → Option ℕ → Type 0
IsFirstZero words bits None = (i : ℕ) → i < bits → bit_in words i ≡ true
IsFirstZero words bits (Some i) = (i < bits) × (bit_in words i ≡ false) × ((j : ℕ) → j < i → bit_in words j ≡ true)

-- ---- on the way

-- the first n words are written
abbrev pub IsWrittenTo : (n : ℕ) → (whole words : List ℕ) → Type 0
IsWrittenTo n whole words = take n words ≡ take n whole

abbrev pub has_zero : ℕ → Bool
has_zero word = not (word == 18446744073709551615)

-- there are n words, and all bits of the first n are 1
abbrev pub IsFullUpTo : List ℕ → ℕ → Type 0
IsFullUpTo words n = (n ≤ length words) × ((k : ℕ) → k < n → slice_index words k ≡ 18446744073709551615)
