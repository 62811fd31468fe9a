-- What is seen of a state and the next one: the tables of one were read to their cells, those of another are read where they
-- are asked for.
use Rattle.std.specs.Prelude.{ℕ, zero, suc, pos, ◌+◌, List, [], ◌∷◌, ◌≡◌, Bool, false, slice_index, map, get_or}
use Rattle.spec_model.specs.declared.value.Value.{Value}
use Rattle.spec_model.specs.declared.value.Value.TheVariants as value
use Rattle.spec_model.specs.declared.game.Hidden.{Hidden}
use Rattle.spec_model.specs.Syntax.{VariableData}
use Rattle.spec_model.specs.Views.{variable_data}
use Rattle.spec_model.specs.GameViews.{hidden_data}
use Rattle.spec_model.specs.Rules.{Position}
use Rattle.spec_model.specs.Moves.{value_among}
use Rattle.spec_model.specs.Meaning.{Reading}
use Rattle.spec_model.specs.FormulaSizes.{nodes_in_each}
use Rattle.spec_model.specs.Games.{GameData, HiddenData, State, listed, next_hidden, Readout, entries_in, read_tables, nothing_read, readout_of, present_reading}
use Rattle.game_values.specs.Safety.{formulas_in}
use Rattle.game_play.specs.declared.sight.Sight.{Sight}

-- the cell that a value stands for
abbrev pub cell_in : Value → ℕ
cell_in (value.Int (pos n)) = n
cell_in _ = 0

-- the entries of the tables at their cells, as far as there are cells
abbrev pub entries_at : List HiddenData → List Value → List (List Bool)
entries_at [] cells = []
entries_at (h ∷ hs) [] = []
entries_at (h ∷ hs) (c ∷ cells) = entries_in h (cell_in c) ∷ entries_at hs cells

-- what the variables have at a position and at the next one, and the entries of the tables
abbrev pub seen_reading : List VariableData → (here next : Position) → List (List Bool) → Reading
seen_reading vs here next entries =
    record {
      variable = λ k t. value_among vs (position t) k;
      entry = λ table part t. get_or (get_or entries table []) part false;
    }
  where
    position : ℕ → Position
    position zero = here
    position (suc t) = next

abbrev pub reading_in : Sight → Reading
reading_in s =
    seen_reading (map variable_data s.vars.now)
    (record { input = s.input.now; output = s.output.now }) (record { input = s.next_input.now; output = s.next_output.now })
    (entries_at (map hidden_data s.hidden.now) s.cells.now)

-- hidden values as the program has them
abbrev pub as_values : List ℕ → List Value
as_values ns = map (λ v. value.Int (pos v)) ns

-- the state has these hidden values and moves
pub record IsSplit (s : State) (numbers x y : List Value) : Type 0 where
  pub hidden : numbers ≡ as_values s.hidden
  pub input : x ≡ s.position.input
  pub output : y ≡ s.position.output

-- the values that the tables have next, at their cells
abbrev pub nexts_at : List HiddenData → List Value → List ℕ
nexts_at [] cells = []
nexts_at (h ∷ hs) [] = []
nexts_at (h ∷ hs) (c ∷ cells) = slice_index h.next (cell_in c) ∷ nexts_at hs cells

-- what is read so far, and the tables that are left
abbrev pub read_so_far : List HiddenData → List Value → Readout
read_so_far hs cells = record { entries = entries_at hs cells; next = nexts_at hs cells }

-- these are the cells of the tables at the state
abbrev pub AreCells : GameData → State → List Value → Type 0
AreCells g s cells = read_so_far g.hidden cells ≡ readout_of g s

-- The state is listed; at it the tables have these cells, and after it these hidden values.
pub record IsReadAt (g : GameData) (s : State) (state cells numbers : List Value) : Type 0 where
  pub lists : listed s ≡ state
  pub read : AreCells g s cells
  pub next : numbers ≡ as_values (next_hidden g s)

-- ---- tables that are read where they are asked for

-- what is present at a position with these hidden values
abbrev pub reading_at : List VariableData → List HiddenData → List Value → Position → Reading
reading_at vs hs numbers p = present_reading vs p (read_tables vs p nothing_read hs (map cell_in numbers)).entries

-- how many nodes the tables' atoms have
abbrev pub nodes_of_atoms : List Hidden → ℕ
nodes_of_atoms [] = 0
nodes_of_atoms (h ∷ hs) = nodes_in_each (formulas_in h.atoms.items) + nodes_of_atoms hs
