-- Numbers in bits, and which of them are below a bound.
use Rattle.std.specs.Prelude.{ℕ, zero, suc, ◌+◌, ◌^◌, nat_lt, if◌then◌else◌}
use Rattle.spec_model.specs.Diagrams.{Bits, Function}

-- the number whose digits are so many bits from this level on, the most significant first
abbrev pub number_at : (level width : ℕ) → Bits → ℕ
number_at level zero s = 0
number_at level (suc w) s = if s level then 2 ^ w + number_at (suc level) w s else number_at (suc level) w s

-- whether that number is below n
abbrev pub is_below : (level width n : ℕ) → Function
is_below level width n s = nat_lt (number_at level width s) n
