-- Functions of the present and the next bits that tell moves of a game.
use Rattle.std.specs.Prelude.{◌≡◌, ℕ, ◌+◌, ◌<◌, ◌≤◌, nat_le, nat_lt, Bool, true, false, not, ◌&&◌, List, length, slice_index_or}
use Rattle.spec_model.specs.Moves.{is_env, domains_of}
use Rattle.spec_model.specs.Games.{GameData}
use Rattle.game_values.specs.declared.seen.At.{At}
use Rattle.game_values.specs.declared.seen.At.TheVariants.{Now, Next}
use Rattle.bdd_ops.specs.Functions.{is_among}
use Rattle.bit_compile.specs.Domains.{state_domains, level_count}
use Rattle.bit_compile.specs.Codes.{level_at, width_at}
use Rattle.bdd_sets.specs.declared.moves.NextLevels.{NextLevels}

-- ---- slots and levels

abbrev pub is_input_slot : GameData → ℕ → Bool
is_input_slot g k = nat_le (length g.hidden) k && nat_lt k (length g.hidden + length (domains_of is_env g.variables))

-- the level is one of these bits of the slot numbered k
abbrev pub IsLevelOf : GameData → At → ℕ → ℕ → Type 0
IsLevelOf g at k m = (level_at (state_domains g) at k ≤ m) × (m < level_at (state_domains g) at k + width_at (state_domains g) k)

-- of the levels of all slots, the list has the next ones of those that pass the test
pub record AreNextOf (g : GameData) (test : ℕ → Bool) (levels : List ℕ) : Type 0 where
  pub has : (k m : ℕ) → k < length (state_domains g) → test k ≡ true → IsLevelOf g Next k m → is_among m levels ≡ true
  pub leaves : (k m : ℕ) → k < length (state_domains g) → test k ≡ false → IsLevelOf g Next k m → is_among m levels ≡ false
  pub leaves_present : (k m : ℕ) → k < length (state_domains g) → IsLevelOf g Now k m → is_among m levels ≡ false

abbrev pub is_any_slot : ℕ → Bool
is_any_slot k = true

abbrev pub is_reply_slot : GameData → ℕ → Bool
is_reply_slot g k = not (is_input_slot g k)

-- ---- what moves lead to

-- For each present level the list has the next one of the same bit.
pub record LeadsToNext (g : GameData) (to : List ℕ) : Type 0 where
  pub long : length to ≡ level_count (state_domains g)
  pub to_next : (k m : ℕ) → k < length (state_domains g) → IsLevelOf g Now k m → slice_index_or to m m ≡ m + width_at (state_domains g) k

-- ---- lists of next levels

-- the lists are those of the game's next bits
pub record AreLevelsOf (g : GameData) (levels : NextLevels) : Type 0 where
  pub all : AreNextOf g is_any_slot levels.all.items
  pub reply : AreNextOf g (is_reply_slot g) levels.reply.items
  pub to : LeadsToNext g levels.to.items
