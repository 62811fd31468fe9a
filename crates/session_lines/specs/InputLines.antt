-- The lines of an input.
use Rattle.std.specs.Prelude.{ℕ, Bool, true, false, ◌==◌, nat_le, if◌then◌else◌, List, [], ◌∷◌, length, Option, Some, None}
use Rattle.std.specs.List.{slice_split}
use Rattle.std.specs.Str.Lines.{strip_carriage_return}

-- how many bytes a line may have; a carriage return that is dropped counts
abbrev pub most_bytes : ℕ
most_bytes = 65536

-- how many bytes a line and its line feed may have
abbrev pub line_room : ℕ
line_room = 65537

-- the text of a line, or nothing where it is too long
abbrev pub Line : Type 0
Line = Option (List ℕ)

abbrev pub is_feed : ℕ → Bool
is_feed c = c == 10

-- what stands before a line feed, without one carriage return at its end
abbrev pub ended_line : List ℕ → Line
ended_line piece = if nat_le (length piece) most_bytes then Some (strip_carriage_return piece) else None

-- What stands behind the last line feed. At the end of the input it is a line if it isn't empty, and keeps a carriage
-- return at its end; before the end only if it is too long already.
abbrev pub open_line : (at_end : Bool) → List ℕ → List Line
open_line true rest = if length rest == 0 then [] else (if nat_le (length rest) most_bytes then Some rest ∷ [] else None ∷ [])
open_line false rest = if nat_le (length rest) most_bytes then [] else None ∷ []

-- the lines of what the line feeds cut
abbrev pub lines_of : (at_end : Bool) → List (List ℕ) → List Line
lines_of at_end [] = []
lines_of at_end (rest ∷ []) = open_line at_end rest
lines_of at_end (piece ∷ next ∷ more) = ended_line piece ∷ lines_of at_end (next ∷ more)

-- the lines of the bytes that an input gave; `at_end` says whether it gave its end
abbrev pub input_lines : (at_end : Bool) → List ℕ → List Line
input_lines at_end bytes = lines_of at_end (slice_split is_feed bytes)
