-- Which domains can be counted, and where the slots of a state lie among the levels.
use Rattle.std.specs.Prelude.{◌≡◌, ◌==◌, true, ◌^◌, pos, ◌-ℤ◌, ◌≤ℤ◌, ℕ, ◌+◌, ◌*◌, ◌<◌, ◌≤◌, ◌⊎◌, List, [], ◌∷◌, length}
use Rattle.spec_model.specs.Values.{DomainData, TruthValues, WholeNumbers, Enumeration}
use Rattle.spec_model.specs.WellMade.{all_differ}
use Rattle.game_values.specs.declared.seen.At.{At}
use Rattle.bit_compile.specs.declared.slots.Slot.{Slot}
use Rattle.bit_compile.specs.Domains.{width_of, level_count}
use Rattle.bit_compile.specs.Codes.{domain_in, width_at, level_at}

-- its whole numbers rise, and none is past 10^12 either way; its names differ
abbrev pub IsCountable : DomainData → Type 0
IsCountable TruthValues = Unit {0}
IsCountable (WholeNumbers lo hi) = (lo ≤ℤ hi) × ((pos 0 -ℤ pos (10 ^ 12)) ≤ℤ lo) × (hi ≤ℤ pos (10 ^ 12))
IsCountable (Enumeration names) = all_differ (λ m n. m == n) names ≡ true

-- the slots of these domains, the first from this level on: each has its present bits and then its next bits
abbrev pub slots_from : ℕ → List DomainData → List Slot
slots_from level [] = []
slots_from level (d ∷ ds) = record { first = level; width = width_of d } ∷ slots_from (level + 2 * width_of d) ds

-- the level is none of these bits of the slot numbered k
abbrev pub IsOutside : List DomainData → At → ℕ → ℕ → Type 0
IsOutside ds at k m = (m < level_at ds at k) ⊎ (level_at ds at k + width_at ds k ≤ m)

-- the slots are those of the domains
pub record AreLaidOut (ds : List DomainData) (slots : List Slot) (levels : ℕ) : Type 0 where
  pub slots_are : slots ≡ slots_from 0 ds
  pub level_number : levels ≡ level_count ds
  pub small : levels < 2 ^ 32
  pub countable : (k : ℕ) → k < length ds → IsCountable (domain_in ds k)
  pub narrow : (k : ℕ) → k < length ds → width_at ds k ≤ 64
