-- Named sets of codes: what the diagram of a number in bits is made of.
use Rattle.std.specs.Prelude.{◌≡◌, ◌⊎◌, ◌^◌, ◌-◌, ℕ, zero, suc, nat_le, true, false, if◌then◌else◌}
use Rattle.spec_model.specs.Diagrams.{Function}
use Rattle.bit_compile.specs.Codes.{has_number, digit}

-- none at all
abbrev pub NoFunction : Function → Type 0
NoFunction f = ⊥

-- a bit or its complement
abbrev pub IsDigit : ℕ → Function → Type 0
IsDigit level f = (f ≡ digit level true) ⊎ (f ≡ digit level false)

-- that, or where the last several bits are a number's digits
abbrev pub IsOfNumber : (level width n : ℕ) → Function → Type 0
IsOfNumber level zero n f = f ≡ has_number level zero n
IsOfNumber level (suc w) n f =
    (f ≡ has_number level (suc w) n) ⊎ (IsDigit level f ⊎ IsOfNumber (suc level) w (if nat_le (2 ^ w) n then n - 2 ^ w else n) f)
