-- What holds of the tables of every specification's past operators, on every run.
use Rattle.std.specs.Prelude.{◌≡◌, ℕ, true, List, ◌++◌, Some, slice_get, Contains}
use Rattle.spec_model.specs.Syntax.{Formula, Statement, Specification}
use Rattle.spec_model.specs.Meaning.{value_at, holds_at}
use Rattle.spec_model.specs.Rules.{Run}
use Rattle.spec_model.specs.Moves.{reading_of}
use Rattle.spec_model.specs.Sizes.{past_operators, formulas_of}
use Rattle.spec_model.specs.Games.{GameData, HiddenData, entry_at}
use Rattle.spec_model.specs.GameRuns.{state_at, game_reading}
use Rattle.spec_model.specs.WellMade.{are_tables}
use Rattle.spec_model.specs.WellTyped.{scope_of_specification}
use Rattle.past_bits.specs.Entries.{with_entries}
use Rattle.past_bits.specs.Tables.{tables_of}

-- the game has the variables of the specification, and its first hidden tables are those of the past operators
pub record BeginsWithBits (s : Specification) (g : GameData) : Type 0 where
  pub variables : g.variables ≡ s.variables
  pub hidden : (more : List HiddenData) × (g.hidden ≡ tables_of (past_operators s) ++ more)

-- the formula stands in a line
pub record IsIn (s : Specification) (e : Formula) : Type 0 where
  pub line : Statement
  pub there : Contains s.lines line
  pub formula : Contains (formulas_of s line.content) e

-- On every run and at every position, by the hidden values that the game has there, the entry of each operator's table is
-- the operator's value, and each formula of a line has its value with the entries in place of its operators.
pub record EntriesAreOperators (s : Specification) (g : GameData) : Type 0 where
  pub entries : (h : Run) (t k : ℕ) (e : Formula) → slice_get (past_operators s) k ≡ Some e →
      entry_at g (state_at g h t) k 0 ≡ holds_at (reading_of s h) e t
  pub formulas : (h : Run) (t : ℕ) (e : Formula) → IsIn s e →
      value_at (game_reading g h) (with_entries (past_operators s) e) t ≡ value_at (reading_of s h) e t

-- The tables are well made where they are the first of a game: their atoms read the variables and the tables before them.
abbrev pub TablesAreMade : Specification → Type 0
TablesAreMade s = are_tables (scope_of_specification s) (tables_of (past_operators s)) ≡ true
