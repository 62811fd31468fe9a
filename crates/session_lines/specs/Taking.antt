-- What was taken of an input, and which line that gave.
use Rattle.std.specs.Prelude.{◌≡◌, ℕ, ◌+◌, ◌≤◌, Bool, true, false, List, [], ◌∷◌, ◌++◌, length, Option, Some, None}
use Rattle.std.specs.Io.KnownBytes.{Consumes, IsAtEnd}
use Rattle.session_lines.specs.declared.reader.Taken.{Taken}
use Rattle.session_lines.specs.declared.reader.Taken.TheVariants as taken
use Rattle.session_lines.specs.InputLines.{Line, line_room, input_lines}
use Rattle.session_lines.specs.HowOften.{idle_reads}

-- the first of the lines is too long
abbrev pub BeginsTooLong : List Line → Type 0
BeginsTooLong [] = ⊥
BeginsTooLong (line ∷ lines) = line ≡ None

-- `before` was there and wasn't handed out yet, `got` came, and now `line` is handed out and `after` is there; `ended` says
-- whether the input gave its end.
abbrev pub GivesLine : Taken → (ended : Bool) → (before got line after : List ℕ) → Type 0
-- whatever comes later, the lines of all of it begin with this one, and the others are those of what is there
GivesLine taken.Line false before got line after =
    (at_end : Bool) (later : List ℕ) → input_lines at_end (before ++ (got ++ later)) ≡ Some line ∷ input_lines at_end (after ++ later)
-- this is the last line
GivesLine taken.Line true before got line after = (input_lines true (before ++ got) ≡ Some line ∷ []) × (after ≡ [])
-- whatever comes later, the first line is too long
GivesLine taken.TooLong ended before got line after =
    (after ≡ before ++ got) × ((at_end : Bool) (later : List ℕ) → BeginsTooLong (input_lines at_end (after ++ later)))
-- the input gave its end, and there is no more line
GivesLine taken.Finish ended before got line after = (ended ≡ true) × (before ++ got ≡ []) × (after ≡ [])
-- no line is whole
GivesLine taken.Failed ended before got line after = (after ≡ before ++ got) × (input_lines false after ≡ [])

-- `got` was taken from the front of what the input had left, and that gave the line. Each read took at least one byte of it but
-- for one that found the end or failed, and no more was taken than one line and what is there have room for.
pub record Takes (left_old left_new : Option (List ℕ)) (reads_old reads_new : ℕ) (ended : Bool) (before line after : List ℕ) (what : Taken) : Type 0 where
  pub got : List ℕ
  pub taken_from : Consumes left_old left_new got
  pub at_end : ended ≡ true → IsAtEnd left_new
  pub gives : GivesLine what ended before got line after
  pub each : reads_new ≤ reads_old + (length got + idle_reads ended what)
  pub within : length before + length got ≤ line_room + length after
