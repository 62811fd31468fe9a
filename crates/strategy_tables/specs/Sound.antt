-- What a table is of a game, and what a sound one shows of the game, and of its specification.
use Rattle.std.specs.Prelude.{◌≡◌, ℕ, None, List, IsTrue, Some, slice_get}
use Rattle.spec_model.specs.Syntax.{Specification}
use Rattle.spec_model.specs.Moves.{rules_of}
use Rattle.spec_model.specs.Realizable.{IsRealizable}
use Rattle.spec_model.specs.Unrealizable.{IsUnrealizable}
use Rattle.spec_model.specs.Games.{GameData}
use Rattle.spec_model.specs.GameRules.{rules_of_game}
use Rattle.spec_model.specs.Steps.{is_state, is_input}
use Rattle.hidden_game.specs.GameOf.{game_of}
use Rattle.strategy_tables.specs.Tables.{NodeData, SystemTable, EnvironmentTable}
use Rattle.strategy_tables.specs.Rules.{system_checks, environment_checks, first_flaw}

-- each node's state is one of the game, with a value of its domain for each hidden table and each variable
abbrev pub HasStates : GameData → List NodeData → Type 0
HasStates g nodes = (i : ℕ) (v : NodeData) → slice_get nodes i ≡ Some v → IsTrue (is_state g v.state)

-- and each reply is an input
abbrev pub HasReplies : GameData → EnvironmentTable → Type 0
HasReplies g t = IsTrue (is_input g t.reply) × ((i : ℕ) (v : NodeData) → slice_get t.nodes i ≡ Some v → IsTrue (is_input g v.reply))

-- A sound table wins, whoever made it: its claim is true of the game.
abbrev pub SoundSystemTablesWin : GameData → Type 0
SoundSystemTablesWin g = (t : SystemTable) → HasStates g t.nodes → first_flaw (system_checks g t) ≡ None → IsRealizable (rules_of_game g) t.k

abbrev pub SoundEnvironmentTablesWin : GameData → Type 0
SoundEnvironmentTablesWin g = (t : EnvironmentTable) → HasStates g t.nodes → HasReplies g t → first_flaw (environment_checks g t) ≡ None → IsUnrealizable (rules_of_game g) t.n t.m

-- ---- of a specification

-- so a sound table of a specification's game shows that the specification is realizable with k, or unrealizable with n and m
abbrev pub SoundTablesWin : Specification → Type 0
SoundTablesWin s =
    ((t : SystemTable) → HasStates (game_of s) t.nodes → first_flaw (system_checks (game_of s) t) ≡ None → IsRealizable (rules_of s) t.k)
    × ((t : EnvironmentTable) → HasStates (game_of s) t.nodes → HasReplies (game_of s) t → first_flaw (environment_checks (game_of s) t) ≡ None → IsUnrealizable (rules_of s) t.n t.m)
