-- Which fault a text has, and where.
use Rattle.std.specs.Prelude.{ℕ, ◌≡◌, ◌≤◌, ◌<◌, List, [], length, take}
use Rattle.std.specs.Str.{chars, IsUtf8, IsValidUpTo}
use Rattle.spectra_lexer.specs.declared.spot.Spot.{Spot}
use Rattle.spectra_lexer.specs.Pieces.{opening_of, IsPiece}
use Rattle.spectra_lexer.specs.Tokens.{most_bytes, past, first_spot, without_mark}

-- there are more bytes than a text may have
abbrev pub IsTooLong : List ℕ → Type 0
IsTooLong text = most_bytes < length text

-- no token, comment or blank is at the front of a text
pub record IsStranger (text : List ℕ) : Type 0 where
  pub some : ¬ (text ≡ [])
  pub none : (piece rest : List ℕ) → ¬ IsPiece (opening_of text) text piece rest

-- from a spot on, the first spot where none begins
pub data FailsAt : Spot → List ℕ → Spot → Type 0 where
  here : {at : Spot} {text : List ℕ} → IsStranger text → FailsAt at text at
  later : {at : Spot} {text : List ℕ} {spot : Spot} (piece rest : List ℕ) → IsPiece (opening_of text) text piece rest
      → FailsAt (past piece at) rest spot → FailsAt at text spot

-- a spot is at a line and column
pub record IsPlaced (spot : Spot) (line column : ℕ) : Type 0 where
  pub line_is : spot.line ≡ line
  pub column_is : spot.column ≡ column

-- the text is no UTF-8, and the place is behind its longest front that is
pub record IsNotUtf8At (text : List ℕ) (line column : ℕ) : Type 0 where
  pub short : length text ≤ most_bytes
  pub valid : ℕ
  pub broken : IsValidUpTo text valid
  pub placed : let front = chars (take valid text) in IsPlaced (past (without_mark front) (first_spot front)) line column

-- the text is UTF-8, and no token, comment or blank begins at the place, the first such
pub record IsBadAt (text : List ℕ) (line column : ℕ) : Type 0 where
  pub short : length text ≤ most_bytes
  pub utf8 : IsUtf8 text
  pub spot : Spot
  pub fails : FailsAt (first_spot (chars text)) (without_mark (chars text)) spot
  pub placed : IsPlaced spot line column
