-- The definitions that use one.
use Rattle.std.specs.Prelude.{◌≡◌, ◌⊎◌, ℕ, ◌<◌, List, length}
use Rattle.spectra_uses.specs.Searching.{next_of}
use Rattle.spectra_uses.specs.Walking.{IsAmong}

-- one more user of each of a list
pub record AddsUser (old new : List (List ℕ)) (user : ℕ) (list : List ℕ) : Type 0 where
  pub size : length new ≡ length old
  pub kept : (used v : ℕ) → IsAmong (next_of old used) v → IsAmong (next_of new used) v
  pub each : (used v : ℕ) → IsAmong (next_of new used) v → IsAmong (next_of old used) v ⊎ ((v ≡ user) × IsAmong list used)
  pub added : (used : ℕ) → IsAmong list used → used < length old → IsAmong (next_of new used) user

-- the users of each definition, among the first of all
pub record AreUsers (uses users : List (List ℕ)) (count : ℕ) : Type 0 where
  pub size : length users ≡ length uses
  pub each : (used user : ℕ) → IsAmong (next_of users used) user → IsAmong (next_of uses user) used
  pub all : (used user : ℕ) → user < count → IsAmong (next_of uses user) used → used < length uses → IsAmong (next_of users used) user
