-- Which next bits a list of levels has, and to which next bits a list leads.
use Rattle.std.specs.Prelude.{◌≡◌, ℕ, ◌+◌, ◌<◌, nat_le, nat_lt, Bool, true, not, ◌&&◌, List, length, take, slice_index_or}
use Rattle.spec_model.specs.Values.{DomainData}
use Rattle.game_values.specs.declared.seen.At.TheVariants.{Now, Next}
use Rattle.bdd_ops.specs.Functions.{is_among}
use Rattle.bit_compile.specs.Domains.{level_count}
use Rattle.bit_compile.specs.Codes.{width_at}
use Rattle.bit_compile.specs.CompileLaws.{IsBitOf}

-- the slot is none of those from the first one up to the one past them
abbrev pub is_elsewhere : (first past : ℕ) → ℕ → Bool
is_elsewhere first past k = not (nat_le first k && nat_lt k past)

-- of the first n slots the list has the next bits of those that pass the test, and no other level
pub record HasNextBits (ds : List DomainData) (test : ℕ → Bool) (n : ℕ) (levels : List ℕ) : Type 0 where
  pub has : (k m : ℕ) → k < n → test k ≡ true → IsBitOf ds Next k m → is_among m levels ≡ true
  pub only : (m : ℕ) → is_among m levels ≡ true → (k : ℕ) × (k < n) × (test k ≡ true) × IsBitOf ds Next k m

-- for each present level of the first n slots the list has the next one of the same bit
pub record LeadsOn (ds : List DomainData) (n : ℕ) (to : List ℕ) : Type 0 where
  pub long : length to ≡ level_count (take n ds)
  pub to_next : (k m : ℕ) → k < n → IsBitOf ds Now k m → slice_index_or to m m ≡ m + width_at ds k
