-- Where the bits of a state stand, and which bits are a state's.
use Rattle.std.specs.Prelude.{◌≡◌, ℕ, zero, suc, ◌+◌, ◌-◌, ◌^◌, ◌<◌, nat_le, true, false, not, ◌&&◌, if◌then◌else◌, List, length, take, get_or, Bool}
use Rattle.spec_model.specs.declared.value.Value.{Value}
use Rattle.spec_model.specs.declared.value.Value.TheVariants as value
use Rattle.spec_model.specs.Values.{DomainData, TruthValues, rank_of}
use Rattle.spec_model.specs.Diagrams.{Function, Bits}
use Rattle.game_values.specs.declared.seen.At.{At}
use Rattle.game_values.specs.declared.seen.At.TheVariants.{Now, Next}
use Rattle.bit_compile.specs.Domains.{width_of, level_count}

abbrev pub domain_in : List DomainData → ℕ → DomainData
domain_in ds k = get_or ds k TruthValues

abbrev pub width_at : List DomainData → ℕ → ℕ
width_at ds k = width_of (domain_in ds k)

-- the first of the present bits of the slot numbered k, and of its next bits
abbrev pub level_at : List DomainData → At → ℕ → ℕ
level_at ds Now k = level_count (take k ds)
level_at ds Next k = level_count (take k ds) + width_at ds k

-- whether so many bits from this level on are the number's digits, the most significant first
abbrev pub has_number : (level width n : ℕ) → Function
has_number level zero n s = true
has_number level (suc w) n s = if nat_le (2 ^ w) n then s level && has_number (suc level) w (n - 2 ^ w) s else not (s level) && has_number (suc level) w n s

-- the code of the value numbered k: its place in its domain
abbrev pub code_at : List DomainData → List Value → ℕ → ℕ
code_at ds values k = rank_of (domain_in ds k) (get_or values k (value.Bool false))

-- the present or the next bits are the codes of these values
abbrev pub HasValues : List DomainData → At → List Value → Bits → Type 0
HasValues ds at values s = (k : ℕ) → k < length ds → has_number (level_at ds at k) (width_at ds k) (code_at ds values k) s ≡ true

-- the level's bit is this one
abbrev pub digit : ℕ → Bool → Function
digit level true s = s level
digit level false s = not (s level)
