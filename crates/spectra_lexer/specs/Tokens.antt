-- The tokens of a text, piece by piece.
use Rattle.std.specs.Prelude.{ℕ, ◌+◌, ◌≤◌, ◌==◌, List, [], ◌∷◌, ◌++◌, length, drop, Option, Some, None, if◌then◌else◌}
use Rattle.std.specs.Char.{len_utf8}
use Rattle.std.specs.Str.{chars, IsUtf8}
use Rattle.spectra_lexer.specs.declared.spot.Spot.{Spot}
use Rattle.spectra_lexer.specs.declared.opening.Opening.{Opening}
use Rattle.spectra_lexer.specs.declared.opening.Opening.TheVariants as opens
use Rattle.spectra_lexer.specs.declared.token.Kind.{Kind}
use Rattle.spectra_lexer.specs.declared.token.Kind.TheVariants as kinds
use Rattle.spectra_lexer.specs.declared.token.Token.{Token}
use Rattle.spectra_lexer.specs.Words.{is_reserved}
use Rattle.spectra_lexer.specs.Pieces.{opening_of, IsPiece, begins_with}

-- the greatest number of bytes of a text
abbrev pub most_bytes : ℕ
most_bytes = 1048576

-- behind a character; a line feed ends a line
abbrev pub behind : ℕ → Spot → Spot
behind c at = record {
  byte = at.byte + len_utf8 c;
  line = if c == 10 then at.line + 1 else at.line;
  column = if c == 10 then 1 else at.column + 1;
}

-- behind these characters
abbrev pub past : List ℕ → Spot → Spot
past [] at = at
past (c ∷ cs) at = past cs (behind c at)

-- a byte order mark at the front is passed over, and takes no column
abbrev pub first_spot : List ℕ → Spot
first_spot text = record { byte = if begins_with 0xFEFF text then 3 else 0; line = 1; column = 1 }

abbrev pub without_mark : List ℕ → List ℕ
without_mark text = if begins_with 0xFEFF text then drop 1 text else text

-- the token of a kind from a spot to another
abbrev pub token_to : Spot → Kind → Spot → Token
token_to at kind next = record { kind = kind; from = at.byte; to = next.byte; line = at.line; column = at.column }

abbrev pub kind_of : List ℕ → Kind
kind_of word = if is_reserved word then kinds.Word else kinds.Name

-- what token a piece is, if it is one
abbrev pub kind_of_piece : Opening → List ℕ → Option Kind
kind_of_piece opens.Nothing piece = None
kind_of_piece opens.Blank piece = None
kind_of_piece opens.LineComment piece = None
kind_of_piece opens.BlockComment piece = None
kind_of_piece opens.Name piece = Some (kind_of piece)
kind_of_piece opens.Number piece = Some kinds.Number
kind_of_piece opens.Quoted piece = Some kinds.Text
kind_of_piece opens.Sign piece = Some kinds.Sign

-- the token from a spot to another, if there is one
abbrev pub token_if : Option Kind → Spot → Spot → List Token
token_if None at next = []
token_if (Some kind) at next = token_to at kind next ∷ []

-- The tokens of what is left of a text from a spot on.
pub data Lexes : Spot → List ℕ → List Token → Type 0 where
  piece : {at : Spot} {text : List ℕ} {tokens : List Token} (piece rest : List ℕ) → IsPiece (opening_of text) text piece rest
      → Lexes (past piece at) rest tokens → Lexes at text (token_if (kind_of_piece (opening_of text) piece) at (past piece at) ++ tokens)
  -- one past the last character
  finish : {at : Spot} → Lexes at [] (token_to at kinds.Finish at ∷ [])

-- the tokens of a whole text
pub record AreTokens (text : List ℕ) (tokens : List Token) : Type 0 where
  pub short : length text ≤ most_bytes
  pub utf8 : IsUtf8 text
  pub lexed : Lexes (first_spot (chars text)) (without_mark (chars text)) tokens
