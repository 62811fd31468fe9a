-- Rows of values, one for each position, and what columns of codes have of them.
use Rattle.std.specs.Prelude.{◌≡◌, ◌≢◌, ℕ, ◌+◌, ◌*◌, ◌<◌, ◌≤◌, take, None, List, [], ◌∷◌, ◌++◌, length, get_or, IsTrue}
use Rattle.spec_model.specs.declared.value.Value.{Value}
use Rattle.spec_model.specs.Syntax.{VariableData}
use Rattle.spec_model.specs.Rules.{Position, Run}
use Rattle.spec_model.specs.Moves.{nothing, value_among}
use Rattle.spec_model.specs.GameRules.{last_state}
use Rattle.spec_model.specs.Games.{GameData, State, entry_at}
use Rattle.column_planes.specs.Columns.{value_in, entry_in}
use Rattle.trace_planes.specs.GameFindings.{broken_in_game}
use Rattle.spec_model.specs.Steps.{is_input, is_output, reached}

-- each position has a value for each variable
abbrev pub AreWhole : GameData → Run → Type 0
AreWhole g [] = Unit {0}
AreWhole g (p ∷ h) = IsTrue (is_input g p.input) × IsTrue (is_output g p.output) × AreWhole g h

-- the values of positions, of each its inputs and then its outputs
abbrev pub rows_of : Run → List Value
rows_of [] = []
rows_of (p ∷ ps) = (p.input ++ p.output) ++ rows_of ps

-- The values are those of whole positions, and each row is so wide.
pub record AreRows (g : GameData) (width : ℕ) (ps : Run) (rows : List Value) : Type 0 where
  pub whole : AreWhole g ps
  pub listed : rows ≡ rows_of ps
  pub wide : width ≡ length g.variables

-- the columns have the codes of a position
abbrev pub HasCodes : List ℕ → (i : ℕ) → List VariableData → Position → Type 0
HasCodes codes i vs p = (k : ℕ) → k < length vs → value_in vs codes k i ≡ value_among vs p k

-- those of the other positions stay
abbrev pub KeepsOthers : (i : ℕ) → (old new : List ℕ) → Type 0
KeepsOthers i old new = (k j : ℕ) → j < 4096 → j ≢ i → get_or new (4096 * k + j) 0 ≡ get_or old (4096 * k + j) 0

-- the columns have the codes of the first n positions
abbrev pub HasColumns : List ℕ → GameData → (n : ℕ) → Run → Type 0
HasColumns codes g n ps = (i : ℕ) → i < n → HasCodes codes i g.variables (get_or ps i nothing)

-- the state that a run comes to by the i-th of some positions more
abbrev pub state_among : GameData → (h ps : Run) → (i : ℕ) → State
state_among g h ps i = reached g (last_state g (h ++ take i ps)) (get_or ps i nothing).input (get_or ps i nothing).output

-- the columns have the cells of the hidden tables at the first n positions after a run, as far as there are columns
abbrev pub HasCells : List ℕ → GameData → (h : Run) → (n : ℕ) → (ps : Run) → Type 0
HasCells cells g h n ps = (i : ℕ) → i < n → (table part : ℕ) → 4096 * table + 4096 ≤ length cells → entry_in g.hidden cells table part i ≡ entry_at g (state_among g h ps i) table part

-- ---- which positions are clear

-- after a run, the first positions but one break no line
abbrev pub AreClear : GameData → (h ps : Run) → (n : ℕ) → Type 0
AreClear g h ps n = (i : ℕ) → 0 < i → i ≤ n → i < length ps → broken_in_game g (h ++ take i ps) (get_or ps i nothing) ≡ None
