-- Which definitions are used in their own bodies, by lists of what each uses.
use Rattle.std.specs.Prelude.{◌≡◌, ℕ, zero, suc, ◌<◌, Bool, false, ◌||◌, ◌==◌, List, [], Some, length, unwrap_or, slice_get}
use Rattle.std.specs.List.{list_any}

-- whether one definition uses another, directly or through others, in so many steps or fewer
abbrev pub reaches : List (List ℕ) → (steps from to : ℕ) → Bool
reaches uses zero from to = false
reaches uses (suc steps) from to = list_any (λ k. k == to || reaches uses steps k to) (unwrap_or (slice_get uses from) [])

-- a table that has for each definition whether it is used in its own body, by the uses of so many definitions
pub record AreOnCycle (uses : List (List ℕ)) (count : ℕ) (table : List Bool) : Type 0 where
  pub size : length table ≡ count
  pub each : (k : ℕ) → k < count → slice_get table k ≡ Some (reaches uses count k k)
