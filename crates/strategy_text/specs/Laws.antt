-- What holds of writing and reading.
use Rattle.std.specs.Prelude.{◌≡◌, ℕ, ◌<◌, ◌^◌, List, Some, All}
use Rattle.spec_model.specs.Syntax.{Specification}
use Rattle.hidden_game.specs.GameOf.{game_of}
use Rattle.strategy_tables.specs.Tables.{NodeData}
use Rattle.strategy_tables.specs.Games.{TableData, OfSystem, OfEnvironment, IsTableOf}
use Rattle.strategy_text.specs.Written.{table_json}
use Rattle.strategy_text.specs.Reading.{table_of, table_in}

-- ---- the numbers of the program's tables

-- each is of 32 bits
abbrev pub AreSmall : List ℕ → Type 0
AreSmall ns = All (λ n. n < 2 ^ 32) ns

pub record HasSmallNumbers (v : NodeData) : Type 0 where
  pub asm : v.asm < 2 ^ 32
  pub goal : v.goal < 2 ^ 32
  pub next : AreSmall v.next

abbrev pub FitsProgram : TableData → Type 0
FitsProgram (OfSystem t) = AreSmall t.first × All HasSmallNumbers t.nodes
FitsProgram (OfEnvironment t) = AreSmall t.first × All HasSmallNumbers t.nodes

-- ---- the way there and back

-- the JSON of a table of the specification's game reads as the table
abbrev pub ReadsBack : Specification → TableData → Type 0
ReadsBack s t = IsTableOf (game_of s) t → FitsProgram t → table_of s.names (game_of s) (table_json s.names t) ≡ Some t

-- what reads as a table is one of the specification's game
abbrev pub ReadsTablesOnly : Specification → Type 0
ReadsTablesOnly s = (bytes : List ℕ) (t : TableData) → table_in s bytes ≡ Some t → IsTableOf (game_of s) t
