-- The piece at the front of a text: its first characters say of which sort it is, and where it ends.
use Rattle.std.specs.Prelude.{ℕ, ◌≡◌, ◌≤◌, ◌==◌, ◌&&◌, ◌||◌, Bool, false, List, [], ◌∷◌, ◌++◌, length, codes, if◌then◌else◌}
use Rattle.spectra_lexer.specs.declared.characters.Run.{Run}
use Rattle.spectra_lexer.specs.declared.characters.Run.TheVariants as runs
use Rattle.spectra_lexer.specs.declared.opening.Opening.{Opening}
use Rattle.spectra_lexer.specs.declared.opening.Opening.TheVariants as opens
use Rattle.spectra_lexer.specs.Characters.{is_blank, is_digit, begins_name, IsRun}
use Rattle.spectra_lexer.specs.Words.{BeginsWithLongest}

-- whether a text begins with a character
abbrev pub begins_with : ℕ → List ℕ → Bool
begins_with c [] = false
begins_with c (d ∷ ds) = d == c

-- two slashes or two hyphens
abbrev pub opens_line : ℕ → List ℕ → Bool
opens_line c cs = (c == 47 || c == 45) && begins_with c cs

-- a slash and an asterisk
abbrev pub opens_block : ℕ → List ℕ → Bool
opens_block c cs = c == 47 && begins_with 42 cs

-- what the piece at the front is, if there is one; a comment is looked for before a sign
abbrev pub opening_of : List ℕ → Opening
opening_of [] = opens.Nothing
opening_of (c ∷ cs) =
    if is_blank c then opens.Blank
    else if begins_name c then opens.Name
    else if is_digit c then opens.Number
    else if c == 34 then opens.Quoted
    else if opens_line c cs then opens.LineComment
    else if opens_block c cs then opens.BlockComment
    else opens.Sign

-- the first character, and the longest run behind it
pub record IsFirstAndRun (run : Run) (text piece rest : List ℕ) : Type 0 where
  pub first : ℕ
  pub behind : List ℕ
  pub front : List ℕ
  pub text_is : text ≡ first ∷ behind
  pub piece_is : piece ≡ first ∷ front
  pub goes : IsRun run behind front rest

-- from /* to the next */ behind it
pub record IsBlockComment (text piece rest : List ℕ) : Type 0 where
  pub inside : List ℕ
  pub piece_is : piece ≡ codes "/*" ++ (inside ++ codes "*/")
  pub text_is : text ≡ codes "/*" ++ (inside ++ (codes "*/" ++ rest))
  pub next : (other more : List ℕ) → text ≡ codes "/*" ++ (other ++ (codes "*/" ++ more)) → length inside ≤ length other

-- a run that is quoted, and the quotation mark behind it
pub record IsQuoted (text piece rest : List ℕ) : Type 0 where
  pub front : List ℕ
  pub piece_is : piece ≡ front ++ 34 ∷ []
  pub begins : IsFirstAndRun runs.Quoted text front (34 ∷ rest)

-- the piece at the front of a text that opens so, and the rest
abbrev pub IsPiece : Opening → List ℕ → List ℕ → List ℕ → Type 0
IsPiece opens.Nothing text piece rest = ⊥
IsPiece opens.Blank text piece rest = IsFirstAndRun runs.Blank text piece rest
IsPiece opens.LineComment text piece rest = IsFirstAndRun runs.Line text piece rest
IsPiece opens.BlockComment text piece rest = IsBlockComment text piece rest
IsPiece opens.Name text piece rest = IsFirstAndRun runs.Name text piece rest
IsPiece opens.Number text piece rest = IsFirstAndRun runs.Number text piece rest
IsPiece opens.Quoted text piece rest = IsQuoted text piece rest
IsPiece opens.Sign text piece rest = BeginsWithLongest text piece rest
