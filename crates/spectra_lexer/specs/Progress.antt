-- What a step over a piece of a text means for its tokens and its fault.
use Rattle.std.specs.Prelude.{ℕ, ◌≡◌, ◌+◌, ◌≤◌, List, ◌++◌, length, codes}
use Rattle.spectra_lexer.specs.declared.characters.Run.{Run}
use Rattle.spectra_lexer.specs.declared.opening.Opening.{Opening}
use Rattle.spectra_lexer.specs.declared.spot.Spot.{Spot}
use Rattle.spectra_lexer.specs.declared.token.Token.{Token}
use Rattle.spectra_lexer.specs.declared.fault.LexFault.{LexFault}
use Rattle.spectra_lexer.specs.declared.fault.LexFault.TheVariants.{NotUtf8, BadCharacter, TooLong, Memory}
use Rattle.spectra_lexer.specs.Pieces.{IsPiece, IsFirstAndRun}
use Rattle.spectra_lexer.specs.Tokens.{most_bytes, past, Lexes}
use Rattle.spectra_lexer.specs.Faults.{FailsAt}

-- a spot in a text that isn't too long, with the bytes that are left there
pub record IsInside (at : Spot) (rest : List ℕ) : Type 0 where
  pub byte : at.byte + length rest ≤ most_bytes
  pub line : at.line ≤ at.byte + 1
  pub column : at.column ≤ at.byte + 1

-- behind so many characters of one byte that end no line
abbrev pub further : ℕ → Spot → Spot
further n at = record { byte = at.byte + n; line = at.line; column = at.column + n }

-- a first character and a run lead to the next spot and the rest
pub record LeadsOver (run : Run) (at : Spot) (text : List ℕ) (next : Spot) (rest : List ℕ) : Type 0 where
  pub piece : List ℕ
  pub is : IsFirstAndRun run text piece rest
  pub spot : next ≡ past piece at

-- the piece at the front leads to the next spot and the rest
pub record Ends (opening : Opening) (at : Spot) (text : List ℕ) (next : Spot) (rest : List ℕ) : Type 0 where
  pub piece : List ℕ
  pub is : IsPiece opening text piece rest
  pub spot : next ≡ past piece at

-- what is behind the next */, and the spot there
pub record Closes (at : Spot) (text : List ℕ) (next : Spot) (rest : List ℕ) : Type 0 where
  pub inside : List ℕ
  pub text_is : text ≡ inside ++ (codes "*/" ++ rest)
  pub next_is : (other more : List ℕ) → text ≡ other ++ (codes "*/" ++ more) → length inside ≤ length other
  pub spot : next ≡ past (inside ++ codes "*/") at

-- With the tokens of the rest at the next spot the new tokens are those of the text, and where the rest fails, the text does.
pub record Leads (at : Spot) (text : List ℕ) (old : List Token) (next : Spot) (rest : List ℕ) (new : List Token) : Type 0 where
  pub found : (ts : List Token) → Lexes next rest ts → (us : List Token) × Lexes at text us × (old ++ us ≡ new ++ ts)
  pub fails : (spot : Spot) → FailsAt next rest spot → FailsAt at text spot

-- the faults that come once a text is known to be UTF-8
abbrev pub ComesLater : LexFault → Type 0
ComesLater (NotUtf8 line column) = ⊥
ComesLater (BadCharacter line column) = Unit {0}
ComesLater TooLong = ⊥
ComesLater Memory = Unit {0}
