-- Walks along links between definitions, through such as have no mark yet.
use Rattle.std.specs.Prelude.{◌≡◌, ◌⊎◌, ℕ, ◌+◌, ◌<◌, ◌≤◌, Bool, true, List, length, Some, slice_get}
use Rattle.spectra_uses.specs.Cycles.{reaches}
use Rattle.spectra_uses.specs.Searching.{next_of, IsOpen, IsKnown, AreKnown, marked}

-- a number stands in a list
abbrev pub IsAmong : List ℕ → ℕ → Type 0
IsAmong list v = (i : ℕ) × (slice_get list i ≡ Some v)

-- links lead from one to another, directly or through others
abbrev pub Leads : List (List ℕ) → (from to : ℕ) → Type 0
Leads links from to = (steps : ℕ) × (reaches links steps from to ≡ true)

-- Those of a list that have no mark are marked, and stand behind those that were reached.
pub record Enters (before after : List Bool) (old new list : List ℕ) : Type 0 where
  pub size : length after ≡ length before
  pub counted : marked after + length old ≡ marked before + length new
  pub longer : length old ≤ length new
  pub same : (i v : ℕ) → slice_get old i ≡ Some v → slice_get new i ≡ Some v
  pub each : (v : ℕ) → IsAmong new v → IsAmong old v ⊎ (IsAmong list v × IsOpen before v × IsKnown after v)
  pub was : (v : ℕ) → IsOpen after v → IsOpen before v
  pub listed : (v : ℕ) → IsOpen before v → IsOpen after v ⊎ IsAmong new v

-- a walk from a definition that has followed the first of those that it has reached
pub record IsWalk (links : List (List ℕ)) (from : ℕ) (before after : List Bool) (reached : List ℕ) (head : ℕ) : Type 0 where
  pub size : length after ≡ length before
  pub counted : marked after ≡ marked before + length reached
  pub within : head ≤ length reached
  pub found : (v : ℕ) → IsAmong reached v → Leads links from v × IsOpen before v × IsKnown after v
  pub was : (v : ℕ) → IsOpen after v → IsOpen before v
  pub listed : (v : ℕ) → IsOpen before v → IsOpen after v ⊎ IsAmong reached v
  pub first : AreKnown after (next_of links from)
  pub followed : (i v : ℕ) → i < head → slice_get reached i ≡ Some v → AreKnown after (next_of links v)

-- Those that had no mark, and that links lead to through such, are reached and marked.
pub record Walks (links : List (List ℕ)) (from : ℕ) (before after : List Bool) (reached : List ℕ) : Type 0 where
  pub size : length after ≡ length before
  pub found : (v : ℕ) → IsAmong reached v → Leads links from v × IsOpen before v
  pub was : (v : ℕ) → IsOpen after v → IsOpen before v
  pub listed : (v : ℕ) → IsOpen before v → IsOpen after v ⊎ IsAmong reached v
  pub first : AreKnown after (next_of links from)
  pub followed : (v : ℕ) → IsAmong reached v → AreKnown after (next_of links v)

-- the marks of a list's numbers are set
pub record Marks (old new : List Bool) (list : List ℕ) (mark : Bool) : Type 0 where
  pub size : length new ≡ length old
  pub inside : (v : ℕ) → IsAmong list v → v < length old → slice_get new v ≡ Some mark
  pub outside : (v : ℕ) → (IsAmong list v → ⊥) → slice_get new v ≡ slice_get old v
