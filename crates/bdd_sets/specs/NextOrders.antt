-- Orders of bits in which next bits stand as the present ones do.
use Rattle.std.specs.Prelude.{◌≡◌, ◌<◌, ℕ, List, length, slice_index_or}
use Rattle.spec_model.specs.Games.{GameData}
use Rattle.game_values.specs.declared.seen.At.TheVariants.{Now}
use Rattle.bdd_bits.specs.Orders.{BitOrder, level_of}
use Rattle.bdd_bits.specs.Contents.{Contents}
use Rattle.bit_compile.specs.Domains.{state_domains, level_count}
use Rattle.bdd_sets.specs.MoveBits.{IsLevelOf}

-- the level is a present bit of some slot
abbrev pub IsPresent : GameData → ℕ → Type 0
IsPresent g m = (k : ℕ) × (k < length (state_domains g)) × IsLevelOf g Now k m

-- where one present bit stands before another, so do the bits that the list gives for them
abbrev pub KeepsNext : GameData → BitOrder → List ℕ → Type 0
KeepsNext g o to = (x y : ℕ) → IsPresent g x → IsPresent g y → level_of o x < level_of o y → level_of o (slice_index_or to x x) < level_of o (slice_index_or to y y)

-- the store has the levels of the game's bits, and its order keeps the list's
pub record FitsNext (g : GameData) (to : List ℕ) (c : Contents) : Type 0 where
  pub levels : c.state.table.levels ≡ level_count (state_domains g)
  pub rising : KeepsNext g c.order to
