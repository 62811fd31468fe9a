-- Settling which definitions are used in their own bodies.
use Rattle.std.specs.Prelude.{◌≡◌, ℕ, ◌<◌, Bool, false, List, length, map, Some, slice_get}
use Rattle.spectra_uses.specs.declared.cycles.Rings.{Rings}
use Rattle.spectra_uses.specs.Cycles.{reaches}
use Rattle.spectra_uses.specs.Searching.{IsOpen, IsKnown}
use Rattle.spectra_uses.specs.Walking.{Leads}
use Rattle.spectra_uses.specs.Users.{AreUsers}

-- the uses and the users of all definitions; marks of those that are settled, and of those that aren't walked through; answers
pub record Settling : Type 0 where
  pub uses : List (List ℕ)
  pub users : List (List ℕ)
  pub settled : List Bool
  pub apart : List Bool
  pub table : List Bool

abbrev pub rings_data : Rings → Settling
rings_data r =
    record {
      uses = map (λ us. us.items) r.uses.now;
      users = map (λ us. us.items) r.users.items;
      settled = r.settled.items;
      apart = r.apart.items;
      table = r.table.items;
    }

-- Those that are settled have their answers. Two that use each other, directly or through others, are settled together.
pub record AreSettled (uses : List (List ℕ)) (settled table : List Bool) : Type 0 where
  pub size : length settled ≡ length uses
  pub room : length table ≡ length uses
  pub together : (v w : ℕ) → Leads uses v w → Leads uses w v → IsOpen settled v → IsOpen settled w
  pub right : (v : ℕ) → v < length uses → IsKnown settled v → slice_get table v ≡ Some (reaches uses (length uses) v v)
  pub none : (v : ℕ) → IsOpen settled v → slice_get table v ≡ Some false

pub record IsSettling (s : Settling) : Type 0 where
  pub users : AreUsers s.uses s.users (length s.uses)
  pub settled : AreSettled s.uses s.settled s.table
  pub room : length s.apart ≡ length s.uses
  pub apart : (v : ℕ) → IsKnown s.apart v

-- a settling that has gone on
pub record SettlesOn (old new : Settling) : Type 0 where
  pub settling : IsSettling new
  pub uses : new.uses ≡ old.uses
  pub known : (v : ℕ) → IsKnown old.settled v → IsKnown new.settled v
