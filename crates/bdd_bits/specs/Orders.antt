-- An order of bits: at which level each bit stands, and which bit stands at each level.
use Rattle.std.specs.Prelude.{◌≡◌, ◌<◌, ℕ, List, length, map, slice_index_or}
use Rattle.std.specs.List.{range_with_len}

pub record BitOrder : Type 0 where
  pub places : List ℕ
  pub names : List ℕ

-- what the list has at a place, and past its end the place itself
abbrev pub at : List ℕ → ℕ → ℕ
at list k = slice_index_or list k k

-- the level of a bit
abbrev pub level_of : BitOrder → ℕ → ℕ
level_of o bit = at o.places bit

-- the bit that stands at a level
abbrev pub bit_of : BitOrder → ℕ → ℕ
bit_of o level = at o.names level

-- each number below its length leads to one below it, from which the other list leads back
abbrev pub LeadsBack : List ℕ → List ℕ → Type 0
LeadsBack to back = (k : ℕ) → k < length to → (at to k < length to) × (at back (at to k) ≡ k)

-- there are so many bits and levels, each bit has a level of its own, and each level a bit
pub record IsOrder (levels : ℕ) (o : BitOrder) : Type 0 where
  pub places_each : length o.places ≡ levels
  pub names_each : length o.names ≡ levels
  pub bits_back : LeadsBack o.places o.names
  pub levels_back : LeadsBack o.names o.places

-- each bit stands at the level of its number
abbrev pub IsDeclared : BitOrder → Type 0
IsDeclared o = (level : ℕ) → bit_of o level ≡ level

-- the levels of several bits
abbrev pub levels_of : BitOrder → List ℕ → List ℕ
levels_of o bits = map (level_of o) bits

-- for each level the level of the bit that the list gives for its bit
abbrev pub moved_levels : BitOrder → List ℕ → List ℕ
moved_levels o to = map (λ level. level_of o (at to (bit_of o level))) (range_with_len 0 (length o.names))
