-- What contracts see of the lines of plays.
use Rattle.std.specs.Prelude.{◌≡◌, ℕ, Bool, false, List, [], ◌++◌, map, string_bytes}
use Rattle.spec_model.specs.Values.{Assignment}
use Rattle.spec_model.specs.Syntax.{VariableData, Specification}
use Rattle.spec_model.specs.Views.{variable_data}
use Rattle.session_lines.specs.declared.lines.Lines.{Lines}
use Rattle.session_lines.specs.Pieces.{reader_pending, reader_line}
use Rattle.session_lines.specs.Shown.{inputs_of, outputs_of}

-- the bytes that were taken of the input and not handed out yet, and the line that was handed out last
abbrev pub pending_of : Lines → List ℕ
pending_of l = reader_pending l.reader

abbrev pub line_of : Lines → List ℕ
line_of l = reader_line l.reader

-- whether the input gave its end
abbrev pub ended_of : Lines → Bool
ended_of l = l.reader.ended

-- nothing was taken of any input yet
pub record AreUnread (l : Lines) : Type 0 where
  pub pending : pending_of l ≡ []
  pub not_ended : ended_of l ≡ false

-- the enum names, the variables that a line is read as, and those that are shown on one, in declared order
abbrev pub names_of : Lines → List (List ℕ)
names_of l = map string_bytes l.names.items

abbrev pub wanted_variables : Lines → List VariableData
wanted_variables l = map variable_data l.wanted.vars.items

abbrev pub shown_variables : Lines → List VariableData
shown_variables l = map variable_data l.shown.vars.items

-- what was read last, and what is shown next
abbrev pub read_of : Lines → Assignment
read_of l = l.wanted.values.items

abbrev pub shown_of : Lines → Assignment
shown_of l = l.shown.values.items

-- a line is read as an assignment of these variables, and one of those is shown
pub record AreOver (l : Lines) (ns : List (List ℕ)) (vs us : List VariableData) : Type 0 where
  pub names : names_of l ≡ ns
  pub wanted : wanted_variables l ≡ vs
  pub shown : shown_variables l ≡ us

-- the lines of plays of this specification, where inputs are read and outputs are shown
abbrev pub AreFor : Lines → Specification → Type 0
AreFor l s = AreOver l s.names (inputs_of s) (outputs_of s)

-- the lines of logs of it, where all variables are read, the inputs before the outputs
abbrev pub AreForLogs : Lines → Specification → Type 0
AreForLogs l s = AreOver l s.names (inputs_of s ++ outputs_of s) []

-- what is wanted and what is shown change places
pub record TurnsRound (old new : Lines) : Type 0 where
  pub over : AreOver new (names_of old) (shown_variables old) (wanted_variables old)
  pub read : read_of new ≡ shown_of old
  pub shown : shown_of new ≡ read_of old

-- the variables and names stay
abbrev pub KeepsTables : (old new : Lines) → Type 0
KeepsTables old new = AreOver new (names_of old) (wanted_variables old) (shown_variables old)

-- what was taken of the input, and the line at hand, stay
pub record KeepsReader (old new : Lines) : Type 0 where
  pub pending : pending_of new ≡ pending_of old
  pub line : line_of new ≡ line_of old
  pub ended : ended_of new ≡ ended_of old

-- what was read last and what is shown next stay
pub record KeepsMoves (old new : Lines) : Type 0 where
  pub read : read_of new ≡ read_of old
  pub shown : shown_of new ≡ shown_of old

-- all of these stay
pub record KeepsAll (old new : Lines) : Type 0 where
  pub tables : KeepsTables old new
  pub reader : KeepsReader old new
  pub moves : KeepsMoves old new
