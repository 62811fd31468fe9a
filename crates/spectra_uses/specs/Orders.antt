-- Orders in which definitions stand behind those that they use.
use Rattle.std.specs.Prelude.{◌≡◌, ◌⊎◌, ℕ, ◌<◌, true, List, [], length, Some, unwrap_or, slice_get}
use Rattle.spectra_uses.specs.Cycles.{reaches}

-- a number stands in a list before a place
pub record StandsBefore (order : List ℕ) (place v : ℕ) : Type 0 where
  pub at : ℕ
  pub before : at < place
  pub there : slice_get order at ≡ Some v

-- one definition uses another
pub record IsUse (uses : List (List ℕ)) (user used : ℕ) : Type 0 where
  pub at : ℕ
  pub there : slice_get (unwrap_or (slice_get uses user) []) at ≡ Some used

-- the two are used in their own bodies, by the uses of so many definitions
pub record BothOnCycle (uses : List (List ℕ)) (count : ℕ) (user used : ℕ) : Type 0 where
  pub user_is : reaches uses count user user ≡ true
  pub used_is : reaches uses count used used ≡ true

-- Every definition's number stands there, behind those of the definitions that it uses. Among definitions that are used in
-- their own bodies the order says nothing.
pub record IsOrderOf (uses : List (List ℕ)) (count : ℕ) (order : List ℕ) : Type 0 where
  pub size : length order ≡ count
  pub whole : (k : ℕ) → k < count → StandsBefore order (length order) k
  pub within : (i k : ℕ) → slice_get order i ≡ Some k → k < count
  pub behind : (i user used : ℕ) → slice_get order i ≡ Some user → IsUse uses user used → used < count → StandsBefore order i used ⊎ BothOnCycle uses count user used
