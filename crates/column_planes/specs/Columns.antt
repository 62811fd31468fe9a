-- Columns: the code of each variable at each of 4,096 positions, and which planes are those of an expression.
use Rattle.std.specs.Prelude.{◌≡◌, ◌≢◌, ◌==◌, ℕ, suc, pos, ◌+◌, ◌*◌, ◌^◌, ◌≤◌, ◌<◌, ◌+ℤ◌, Bool, false, if◌then◌else◌, List, [], length, map, get_or}
use Rattle.spec_model.specs.declared.value.Value.{Value}
use Rattle.spec_model.specs.declared.value.Value.TheVariants as value
use Rattle.spec_model.specs.Values.{DomainData, TruthValues, WholeNumbers, Enumeration}
use Rattle.spec_model.specs.Syntax.{Formula, VariableData}
use Rattle.spec_model.specs.Views.{variable_data}
use Rattle.spec_model.specs.GameViews.{hidden_data}
use Rattle.spec_model.specs.Games.{HiddenData, entries_in}
use Rattle.spec_model.specs.Meaning.{Reading, holds_at, value_at}
use Rattle.column_planes.specs.declared.columns.Columns.{Columns}
use Rattle.column_planes.specs.Planes.{bit_in}

-- ---- codes

-- the value that a code stands for in a domain
abbrev pub value_of_code : DomainData → ℕ → Value
value_of_code TruthValues c = value.Bool (c == 1)
value_of_code (WholeNumbers lo hi) c = value.Int (lo +ℤ pos c)
value_of_code (Enumeration names) c = value.Name c

-- no code stands for the value
abbrev pub HasNoCode : DomainData → Value → Type 0
HasNoCode d v = (c : ℕ) → c < 2 ^ 16 → value_of_code d c ≢ v

-- the variables with 4,096 codes for each, and the hidden tables with 4,096 cells for each
pub record ColumnData : Type 0 where
  pub variables : List VariableData
  pub tables : List HiddenData
  pub codes : List ℕ
  pub cells : List ℕ

abbrev pub column_data : Columns → ColumnData
column_data c = record { variables = map variable_data c.vars.now; tables = map hidden_data c.hidden.now; codes = c.codes.now; cells = c.cells.now }

abbrev pub domain_in : List VariableData → ℕ → DomainData
domain_in vs k = get_or (map (λ v. v.domain) vs) k TruthValues

-- the value of a variable at a position, by its code
abbrev pub value_in : List VariableData → (codes : List ℕ) → (k position : ℕ) → Value
value_in vs codes k i = value_of_code (domain_in vs k) (get_or codes (4096 * k + i) 0)

-- an entry of a hidden table at a position, by its cell
abbrev pub entry_in : List HiddenData → (cells : List ℕ) → (table part position : ℕ) → Bool
entry_in hs cells table part i = get_or (get_or (map (λ h. entries_in h (get_or cells (4096 * table + i) 0)) hs) table []) part false

-- ---- what is seen

-- The columns have at a position what a reading has at a time, as far as there are columns of cells.
pub record AreRead (cs : ColumnData) (i : ℕ) (r : Reading) (t : ℕ) : Type 0 where
  pub variables : (k : ℕ) → k < length cs.variables → value_in cs.variables cs.codes k i ≡ r.variable k t
  pub entries : (table part : ℕ) → 4096 * table + 4096 ≤ length cs.cells → entry_in cs.tables cs.cells table part i ≡ r.entry table part t

-- bit j of a plane is judged at the position that it is numbered by, or, at 1, the one after it; from the former the next one is read too
pub record IsSeen (cs : ColumnData) (at j : ℕ) (r : Reading) (t : ℕ) : Type 0 where
  pub here : AreRead cs (j + at) r t
  pub next : at ≡ 0 → AreRead cs (j + 1) r (suc t)

-- the plane has at each bit what is so in each reading that is seen there
abbrev pub HasBits : ColumnData → (bits at : ℕ) → (Reading → ℕ → Bool) → List ℕ → Type 0
HasBits cs bits at f plane = (j : ℕ) → j < bits → (r : Reading) (t : ℕ) → IsSeen cs at j r t → bit_in plane j ≡ f r t

-- the plane of a formula
abbrev pub IsPlaneOf : ColumnData → (bits at : ℕ) → Formula → List ℕ → Type 0
IsPlaneOf cs bits at e plane = HasBits cs bits at (λ r t. holds_at r e t) plane

-- so many words are begun by the bits
pub record AreWords (bits words : ℕ) : Type 0 where
  pub enough : bits ≤ 64 * words
  pub begun : 64 * words < bits + 64

-- ---- values at several positions

-- the values are those of a formula at the positions from one on
abbrev pub AreValuesOf : ColumnData → (at from : ℕ) → Formula → List Value → Type 0
AreValuesOf cs at from e vs = (i : ℕ) → i < length vs → (r : Reading) (t : ℕ) → IsSeen cs at (from + i) r t → get_or vs i (value.Bool false) ≡ value_at r e t

-- the codes are 1 at the first n positions where a formula holds, and 0 at the others of them
abbrev pub AreTruthsOf : ColumnData → (at n : ℕ) → Formula → List ℕ → Type 0
AreTruthsOf cs at n e codes = (j : ℕ) → j < n → (r : Reading) (t : ℕ) → IsSeen cs at j r t → get_or codes j 0 ≡ (if holds_at r e t then 1 else 0)
