-- Lines that begin with a session's number.
use Rattle.std.specs.Prelude.{◌≡◌, ℕ, ◌≤◌, true, List, [], ◌∷◌, ◌++◌, take, drop}
use Rattle.std.specs.Fmt.{decimal}
use Rattle.session_lines.specs.Reading.{is_blank}
use Rattle.session_lines.specs.Plain.{IsWhole}

-- sessions are numbered from 1
abbrev pub most_sessions : ℕ
most_sessions = 1024

abbrev pub IsSession : ℕ → Type 0
IsSession n = (1 ≤ n) × (n ≤ most_sessions)

-- what a line is read as: the number of a session, and what stands behind it
pub record Message : Type 0 where
  pub session : ℕ
  pub text : List ℕ

-- it is empty, or begins with a space or a tab
abbrev pub BeginsBlank : List ℕ → Type 0
BeginsBlank [] = Unit {0}
BeginsBlank (c ∷ cs) = is_blank c ≡ true

-- The line is the session's number as it is printed, and then the text, which is empty or begins with a blank.
pub record IsNumbered (line : List ℕ) (m : Message) : Type 0 where
  pub bytes : line ≡ decimal m.session ++ m.text
  pub session : IsSession m.session
  pub apart : BeginsBlank m.text

-- the first word of a line at its very start, which may be empty, has so many bytes
pub record IsWordEnd (line : List ℕ) (n : ℕ) : Type 0 where
  pub whole : IsWhole (take n line)
  pub apart : BeginsBlank (drop n line)
