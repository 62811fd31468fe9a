-- The game of a specification: its hidden tables, its lines by whom they bind and when they are judged, and its goals.
use Rattle.std.specs.Prelude.{ℕ, suc, Bool, not, if◌then◌else◌, List, [], ◌∷◌, ◌++◌, length, map, Option, Some, None, option_map, slice_get, flat_map}
use Rattle.std.specs.List.{filter_map}
use Rattle.spec_model.specs.declared.spec.Role.{Role}
use Rattle.spec_model.specs.Syntax.{Formula, Entry, Content, Initial, Safety, Recurring, PatternUse, TriggerUse, Statement, Specification}
use Rattle.spec_model.specs.Moves.{is_assumption, is_guarantee}
use Rattle.spec_model.specs.Sizes.{past_operators}
use Rattle.spec_model.specs.Games.{GameData, GoalData, HiddenData}
use Rattle.past_bits.specs.Entries.{with_entries}
use Rattle.past_bits.specs.Tables.{tables_of}
use Rattle.pattern_rows.specs.Rows.{rows_of}
use Rattle.trigger_dfa.specs.Standings.{table_of}
use Rattle.hidden_game.specs.declared.player.Player.{Player}
use Rattle.hidden_game.specs.declared.player.Player.TheVariants.{Environment, System}
use Rattle.hidden_game.specs.declared.player.Time.{Time}
use Rattle.hidden_game.specs.declared.player.Time.TheVariants.{First, Always}

-- ---- hidden tables

-- the formula with the entries of the past operators' tables in place of the operators
abbrev pub entered : Specification → Formula → Formula
entered s e = with_entries (past_operators s) e

-- The table of a line that uses a pattern or is a trigger, over the line's formulas: the pattern's table with the arguments
-- for its atoms, or the trigger's with its different brackets.
abbrev pub line_table : Specification → Content → Option HiddenData
line_table s (PatternUse p args) = option_map (λ p. record (rows_of p) { atoms = args }) (slice_get s.patterns p)
line_table s (TriggerUse t) = option_map table_of (slice_get s.triggers t)
line_table s _ = None

-- the table with entries in its atoms in place of past operators
abbrev pub entered_table : Specification → HiddenData → HiddenData
entered_table s h = record h { atoms = map (entered s) h.atoms }

-- the line's table in the game
abbrev pub table_for : Specification → Content → Option HiddenData
table_for s c = option_map (entered_table s) (line_table s c)

-- those of several lines, in text order
abbrev pub tables_for : Specification → List Statement → List HiddenData
tables_for s ls = filter_map (λ l. table_for s l.content) ls

-- one for each different past operator, and then one for each line that has one
abbrev pub hidden_of : Specification → List HiddenData
hidden_of s = tables_of (past_operators s) ++ tables_for s s.lines

-- ---- lines

-- assumptions bind the environment, all other lines the system
abbrev pub binds : Player → Role → Bool
binds Environment role = is_assumption role
binds System role = not (is_assumption role)

-- what a line says that is judged at this time
abbrev pub said : Time → Content → Option Formula
said First (Initial e) = Some e
said Always (Safety e) = Some e
said _ _ = None

abbrev pub numbered : ℕ → Option Formula → List (ℕ × Formula)
numbered n None = []
numbered n (Some e) = (n, e) ∷ []

-- the line with its number, where it binds the player and is judged at this time
abbrev pub line_for : Specification → Player → Time → Statement → List (ℕ × Formula)
line_for s player time l = if binds player l.role then numbered l.number (option_map (entered s) (said time l.content)) else []

abbrev pub lines_for : Specification → Player → Time → List Statement → List (ℕ × Formula)
lines_for s player time ls = flat_map (line_for s player time) ls

-- ---- goals

-- whose recurring lines become goals
abbrev pub recurs : Player → Role → Bool
recurs Environment role = is_assumption role
recurs System role = is_guarantee role

-- the entries of a table's truth tables, from this one on
abbrev pub entries_from : (table part : ℕ) → List (List Bool) → List Formula
entries_from table part [] = []
entries_from table part (t ∷ ts) = Entry table part ∷ entries_from table (suc part) ts

-- all of them
abbrev pub entries_of : (table : ℕ) → Option HiddenData → List Formula
entries_of table None = []
entries_of table (Some h) = entries_from table 0 h.tables

-- What recurs by a line: the formula of a recurring line, and the entries of the line's table, whose number is given.
abbrev pub recurring : Specification → (table : ℕ) → Content → List Formula
recurring s table (Recurring e) = entered s e ∷ []
recurring s table c = entries_of table (table_for s c)

-- goals of the line with a number: the only one has the part 0, and several are counted from 1
abbrev pub labelled_from : (line part : ℕ) → List Formula → List GoalData
labelled_from line part [] = []
labelled_from line part (e ∷ es) = record { label = record { line = line; part = part }; holds = e } ∷ labelled_from line (suc part) es

abbrev pub labelled : (line : ℕ) → List Formula → List GoalData
labelled line (e ∷ []) = labelled_from line 0 (e ∷ [])
labelled line es = labelled_from line 1 es

-- the line's goals, where it recurs and the next hidden table has this number
abbrev pub goal_for : Specification → Player → (table : ℕ) → Statement → List GoalData
goal_for s player table l = if recurs player l.role then labelled l.number (recurring s table l.content) else []

-- the number of the next table behind a line's
abbrev pub next_table : (table : ℕ) → Option HiddenData → ℕ
next_table table None = table
next_table table (Some h) = suc table

-- the goals of lines whose tables are numbered from this one on
abbrev pub goals_for : Specification → Player → (table : ℕ) → List Statement → List GoalData
goals_for s player table [] = []
goals_for s player table (l ∷ ls) = goal_for s player table l ++ goals_for s player (next_table table (table_for s l.content)) ls

-- ---- games

-- Its variables, its hidden tables, and its lines and goals in text order, with entries in place of past operators: the
-- lines' tables are numbered behind those of the operators.
abbrev pub game_of : Specification → GameData
game_of s =
    record {
      variables = s.variables;
      hidden = hidden_of s;
      initial_asm = lines_for s Environment First s.lines;
      initial_gar = lines_for s System First s.lines;
      safe_asm = lines_for s Environment Always s.lines;
      safe_gar = lines_for s System Always s.lines;
      assume = goals_for s Environment (length (past_operators s)) s.lines;
      goals = goals_for s System (length (past_operators s)) s.lines;
    }
