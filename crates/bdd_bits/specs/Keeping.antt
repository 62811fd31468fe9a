-- Lists that move bits and keep the order in which they stand.
use Rattle.std.specs.Prelude.{◌≢◌, ◌<◌, ℕ, List, length}
use Rattle.bdd_bits.specs.Orders.{BitOrder, at, level_of}

-- of two bits that the list moves, the one that stands first is moved to the one that stands first
abbrev pub Keeps : BitOrder → List ℕ → Type 0
Keeps o to = (x y : ℕ) → y < length o.names → at to x ≢ x → at to y ≢ y → level_of o x < level_of o y → level_of o (at to x) < level_of o (at to y)

-- the same of the bits at the levels before one, which are all moved to levels before another
pub record KeepsBefore (o : BitOrder) (to : List ℕ) (level least : ℕ) : Type 0 where
  pub before : (x : ℕ) → level_of o x < level → at to x ≢ x → level_of o (at to x) < least
  pub rising : (x y : ℕ) → level_of o y < level → at to x ≢ x → at to y ≢ y → level_of o x < level_of o y → level_of o (at to x) < level_of o (at to y)
