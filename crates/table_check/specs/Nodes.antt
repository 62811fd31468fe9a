-- What is looked at of each node.
use Rattle.std.specs.Prelude.{◌≡◌, ℕ, ◌≤◌, ◌^◌, ◌-◌, min, if◌then◌else◌, List, map, length, Option, Some, None}
use Rattle.spec_model.specs.GameViews.{game_data}
use Rattle.spec_model.specs.Games.{GameData, outputs_of}
use Rattle.strategy_tables.specs.declared.tables.Node.{Node}
use Rattle.strategy_tables.specs.Tables.{NodeData, EnvironmentTable, goal_holds, asm_holds}
use Rattle.strategy_tables.specs.Rules.{rule_2, rule_3, rule_4, rule_7, rule_8, rule_9}
use Rattle.strategy_tables.specs.Sound.{HasStates, HasReplies}
use Rattle.strategy_tables.specs.Views.{node_data}
use Rattle.table_check.specs.declared.held.Held.{Held}
use Rattle.table_check.specs.declared.checker.Checker.{Checker}
use Rattle.table_check.specs.declared.environment.Claim.{Claim}
use Rattle.table_check.specs.Turns.{AreJudges}

-- whether its goal holds, and its assumption
abbrev pub held_at : GameData → NodeData → Held
held_at g v = record { goal = goal_holds g v; asm = asm_holds g v }

abbrev pub game_in : Checker → GameData
game_in c = game_data c.judges.now.game

abbrev pub nodes_in : Checker → List NodeData
nodes_in c = map node_data c.nodes.now

-- the checker is of a game and a table of it
pub record IsChecker (c : Checker) : Type 0 where
  pub judges : AreJudges c.judges.now
  pub few : length c.nodes.now ≤ 1024
  pub states : HasStates (game_in c) (nodes_in c)
  pub held : c.held.now ≡ map (held_at (game_in c)) (nodes_in c)

abbrev pub environment_data : Claim → List Node → EnvironmentTable
environment_data claim nodes = record { n = claim.n; m = claim.m; reply = claim.reply.now; first = claim.first.now; nodes = map node_data nodes }

abbrev pub claimed : Checker → Claim → EnvironmentTable
claimed c claim = environment_data claim c.nodes.now

-- the checker is of an environment's table
pub record IsClaim (c : Checker) (claim : Claim) : Type 0 where
  pub checker : IsChecker c
  pub moves : map (λ y. y.items) c.moves.now ≡ outputs_of (game_in c)
  pub replies : HasReplies (game_in c) (claimed c claim)

-- the first of a node's rules that fails
abbrev pub system_rule_at : GameData → List NodeData → NodeData → Option ℕ
system_rule_at g nodes v = if rule_2 g v then (if rule_3 g nodes v then (if rule_4 g nodes v then None else Some 4) else Some 3) else Some 2

abbrev pub environment_rule_at : GameData → EnvironmentTable → NodeData → Option ℕ
environment_rule_at g t v = if rule_7 g t v then (if rule_8 g t.nodes v then (if rule_9 g t.nodes v then None else Some 9) else Some 8) else Some 7

-- a number, as far as it fits 64 bits
abbrev pub capped : ℕ → ℕ
capped n = min (2 ^ 64 - 1) n
