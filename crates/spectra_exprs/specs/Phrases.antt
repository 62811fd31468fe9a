-- What no operator may follow where it is whole.
use Rattle.std.specs.Prelude.{ℕ, List}
use Rattle.spectra_trees.specs.Data.{Expression}
use Rattle.spectra_trees.specs.Lexemes.{Lexeme}
use Rattle.spectra_exprs.specs.Forms.{Term}
use Rattle.spectra_exprs.specs.Grammar.{ExprOf, Sum, Levels}

-- an expression, and the bound of a range
pub data Phrase : Type 0 where
  Whole : Phrase
  Bound : Phrase

-- tokens that are one, with at most so many levels
abbrev pub ArePhrase : Phrase → ℕ → List Lexeme → Type 0
ArePhrase Phrase.Whole left used = (e : Expression) × ExprOf (Levels left) used e
ArePhrase Phrase.Bound left used = (p : Term) × Sum (Levels left) used p
