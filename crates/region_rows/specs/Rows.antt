-- A row has a bit for each number, in words of 64 bits.
use Rattle.std.specs.Prelude.{◌≡◌, ℕ, ◌-◌, ◌*◌, ◌/◌, ◌%◌, ◌^◌, Bool, false, List, get_or, eqb}
use Rattle.std.proofs.Common.{min}
use Rattle.std.specs.Int.{bit_at}
use Rattle.region_rows.specs.declared.row.Row.{Row}

-- past its words a row has zeros
abbrev pub word_of : Row → ℕ → ℕ
word_of row j = get_or row.words.items j 0

-- the bit of a word is 1
abbrev pub set_in : ℕ → ℕ → Bool
set_in word i = eqb (bit_at word i) 1

-- the number is in the row
unfoldable pub bit_of : Row → ℕ → Bool
bit_of row k = set_in (word_of row (k / 64)) (k % 64)

-- in word j, a 1 for each number below count
unfoldable pub ones_of : ℕ → ℕ → ℕ
ones_of count j = 2 ^ min 64 (count - j * 64) - 1

-- the row has the truth values of the list, and no number past them
pub record Shows (row : Row) (bits : List Bool) : Type 0 where
  pub at : (k : ℕ) → bit_of row k ≡ get_or bits k false
