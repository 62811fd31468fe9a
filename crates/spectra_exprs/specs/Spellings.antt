-- Tokens as the lexer gives them: each has the class of its kind and its text, and its text alone is a token of that kind.
use Rattle.std.specs.Prelude.{ℕ, ◌≡◌, List, [], ◌∷◌, Some}
use Rattle.std.specs.Str.{chars}
use Rattle.spectra_lexer.specs.declared.token.Kind.{Kind}
use Rattle.spectra_lexer.specs.declared.token.Kind.TheVariants as kinds
use Rattle.spectra_lexer.specs.Pieces.{opening_of, IsPiece}
use Rattle.spectra_lexer.specs.Tokens.{kind_of_piece}
use Rattle.spectra_trees.specs.Classes.{class_of}
use Rattle.spectra_trees.specs.Lexemes.{Lexeme}

-- characters that are one piece of a text, with nothing behind it, and a token of a kind
pub record IsToken (kind : Kind) (characters : List ℕ) : Type 0 where
  pub piece : IsPiece (opening_of characters) characters characters []
  pub sort : kind_of_piece (opening_of characters) characters ≡ Some kind

-- the text of a token of a kind; that of the end is empty
abbrev pub IsTextOf : Kind → List ℕ → Type 0
IsTextOf kinds.Finish text = text ≡ []
IsTextOf kinds.Word text = IsToken kinds.Word (chars text)
IsTextOf kinds.Name text = IsToken kinds.Name (chars text)
IsTextOf kinds.Number text = IsToken kinds.Number (chars text)
IsTextOf kinds.Text text = IsToken kinds.Text (chars text)
IsTextOf kinds.Sign text = IsToken kinds.Sign (chars text)

-- a token that a text may have
pub record IsSpelled (t : Lexeme) : Type 0 where
  pub kind : Kind
  pub text : IsTextOf kind t.text
  pub class : t.class ≡ class_of kind t.text

abbrev pub AreSpelled : List Lexeme → Type 0
AreSpelled [] = Unit {0}
AreSpelled (t ∷ ts) = IsSpelled t × AreSpelled ts
