-- Tokens with their texts and classes: what the grammar is over.
use Rattle.std.specs.Prelude.{ℕ, ◌-◌, ◌+◌, List, [], ◌∷◌, take, drop}
use Rattle.spectra_lexer.specs.declared.token.Token.{Token}
use Rattle.spectra_trees.specs.declared.class.Class.{Class}
use Rattle.spectra_trees.specs.declared.tree.Place.{Place}
use Rattle.spectra_trees.specs.Classes.{class_of}
use Rattle.spectra_trees.specs.Data.{NameData}

-- what a token is for the grammar, its slice of the text, its place, and its number in the list
pub record Lexeme : Type 0 where
  pub class : Class
  pub text : List ℕ
  pub at : Place
  pub number : ℕ

-- a token of a text, by its number
abbrev pub lexeme : List ℕ → ℕ → Token → Lexeme
lexeme text number t =
    let slice = take (t.to - t.from) (drop t.from text) in
    record { class = class_of t.kind slice; text = slice; at = record { line = t.line; column = t.column }; number = number }

-- the tokens of a text, numbered from a number on
abbrev pub lexemes_from : List ℕ → ℕ → List Token → List Lexeme
lexemes_from text number [] = []
lexemes_from text number (t ∷ ts) = lexeme text number t ∷ lexemes_from text (number + 1) ts

abbrev pub lexemes : List ℕ → List Token → List Lexeme
lexemes text tokens = lexemes_from text 0 tokens

-- the name that a token is
abbrev pub name_of : Lexeme → NameData
name_of t = record { text = t.text; line = t.at.line; column = t.at.column }
