-- What a text's tree is, and what an answer of the program says.
use Rattle.std.specs.Prelude.{ℕ, ◌≡◌, ◌+◌, ◌<◌, ◌≤◌, true, List, ◌∷◌, ◌++◌, length, take}
use Rattle.spectra_lexer.specs.declared.token.Token.{Token}
use Rattle.spectra_exprs.specs.declared.fault.SyntaxFault.{SyntaxFault}
use Rattle.spectra_exprs.specs.declared.fault.SyntaxFault.TheVariants as faults
use Rattle.spectra_trees.specs.Data.{TreeData}
use Rattle.spectra_trees.specs.Lexemes.{Lexeme, lexemes}
use Rattle.spectra_exprs.specs.Forms.{levels_of_a_text}
use Rattle.spectra_exprs.specs.Nesting.{open_levels}
use Rattle.spectra_exprs.specs.Operators.{is_operator}
use Rattle.spectra_exprs.specs.Phrases.{Phrase, ArePhrase}
use Rattle.spectra_exprs.specs.Spellings.{AreSpelled}
use Rattle.spectra_parser.specs.ItemGrammar.{Text}

-- the tree of a list of tokens, with at most 128 levels
abbrev pub HasTree : List Lexeme → TreeData → Type 0
HasTree ts tree = Text levels_of_a_text ts tree

-- the tree of a text, by its tokens
abbrev pub IsText : (text : List ℕ) → List Token → TreeData → Type 0
IsText text tokens tree = HasTree (lexemes text tokens) tree

-- tokens that begin a text with at most so many levels: with some tokens behind them, each as the lexer gives it, they are one
pub record BeginText (left : ℕ) (ts : List Lexeme) : Type 0 where
  pub more : List Lexeme
  pub spelled : AreSpelled more
  pub tree : TreeData
  pub grammar : Text left (ts ++ more) tree

-- tokens that begin no text with at most so many levels, whatever tokens stand behind them
abbrev pub BeginNoText : ℕ → List Lexeme → Type 0
BeginNoText left ts = (more : List Lexeme) → (tree : TreeData) → Text left (ts ++ more) tree → ⊥

-- nowhere before a token, by its number, more than 128 levels are open
abbrev pub IsShallow : List Lexeme → ℕ → Type 0
IsShallow ts at = (k : ℕ) → k ≤ at → open_levels (take k ts) ≤ levels_of_a_text

-- a token of the list, by its number: up to it, and including it, the tokens begin no text, with no number of levels;
-- those before it begin a text, and open at most 128 levels
pub record IsRefused (ts : List Lexeme) (at : ℕ) : Type 0 where
  pub within : at < length ts
  pub refused : (left : ℕ) → BeginNoText left (take (at + 1) ts)
  pub begun : (left : ℕ) × BeginText left (take at ts)
  pub shallow : IsShallow ts at

-- a token of the list, by its number, that opens level 129 of a text: up to it, and including it, the tokens begin a text,
-- and those before it open at most 128 levels
pub record OpensLevelTooMany (ts : List Lexeme) (at : ℕ) : Type 0 where
  pub within : at < length ts
  pub begun : (left : ℕ) × BeginText left (take at ts)
  pub deeper : (left : ℕ) × BeginText left (take (at + 1) ts)
  pub shallow : IsShallow ts at
  pub level : open_levels (take (at + 1) ts) ≡ levels_of_a_text + 1

-- such a token; up to it, and including it, the tokens begin no text with at most 128 levels
pub record IsTooDeep (ts : List Lexeme) (at : ℕ) : Type 0 where
  pub opens : OpensLevelTooMany ts at
  pub refused : BeginNoText levels_of_a_text (take (at + 1) ts)

-- a token of the list, by its number: an operator behind a whole expression, or the whole bound of a range, in whose place
-- each other one with as many levels may stand
pub record IsBehindPhrase (ts : List Lexeme) (at : ℕ) : Type 0 where
  pub front : List Lexeme
  pub phrase : List Lexeme
  pub operator : Lexeme
  pub rest : List Lexeme
  pub parts : ts ≡ front ++ (phrase ++ operator ∷ rest)
  pub number : operator.number ≡ at
  pub is : is_operator operator.class ≡ true
  pub sort : Phrase
  pub left : ℕ
  pub whole : ArePhrase sort left phrase
  pub any : (other : List Lexeme) → ArePhrase sort left other → (levels : ℕ) × BeginText levels (front ++ other)

-- what a fault says of the tokens: a refused token is Parentheses where it is an operator behind a whole phrase, and else
-- Unexpected; of want of memory nothing is said
abbrev pub Explains : List Lexeme → SyntaxFault → Type 0
Explains ts (faults.Unexpected at) = IsRefused ts at × (IsBehindPhrase ts at → ⊥)
Explains ts (faults.TooDeep at) = IsTooDeep ts at
Explains ts (faults.Parentheses at) = IsRefused ts at × IsBehindPhrase ts at
Explains ts faults.Memory = Unit {0}
