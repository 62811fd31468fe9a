-- Tables of either player, and which of them are tables of a game.
use Rattle.std.specs.Prelude.{◌≡◌, ℕ, ◌≤◌, List, [], length, Some, slice_get}
use Rattle.spec_model.specs.Games.{GameData}
use Rattle.strategy_tables.specs.Tables.{NodeData, SystemTable, EnvironmentTable}
use Rattle.strategy_tables.specs.Sound.{HasStates, HasReplies}

-- a table of either player
pub data TableData : Type 0 where
  OfSystem : SystemTable → TableData
  OfEnvironment : EnvironmentTable → TableData

-- in a system's table no layer and no reply is said
abbrev pub HasNoReplies : List NodeData → Type 0
HasNoReplies nodes = (i : ℕ) (v : NodeData) → slice_get nodes i ≡ Some v → (v.layer ≡ 0) × (v.reply ≡ [])

-- at most 1,024 nodes, each with a state of the game, and in an environment's table each with an input
abbrev pub IsTableOf : GameData → TableData → Type 0
IsTableOf g (OfSystem t) = (length t.nodes ≤ 1024) × HasStates g t.nodes × HasNoReplies t.nodes
IsTableOf g (OfEnvironment t) = (length t.nodes ≤ 1024) × HasStates g t.nodes × HasReplies g t
