-- The forms that productions are made of, as relations between the tokens that are used, all of them, and what they mean.
-- No form looks ahead, and alternatives stand in no order.
use Rattle.std.specs.Prelude.{◌≡◌, true, List, [], ◌∷◌, ◌++◌, ◌⊎◌, ℕ, Bool}
use Rattle.spectra_trees.specs.declared.class.Class.{Class}
use Rattle.spectra_trees.specs.Classes.{same_class}
use Rattle.spectra_trees.specs.Lexemes.{Lexeme}
use Rattle.spectra_trees.specs.declared.tree.Place.{Place}
use Rattle.spectra_trees.specs.declared.tree.BinaryWord.{BinaryWord}
use Rattle.spectra_trees.specs.Data.{NameData, Expression, Form, expression, first_of}

abbrev pub Grammar : Type 0 → Type 1
Grammar A = List Lexeme → A → Type 0

-- no tokens
pub record Gives {A : Type 0} (a : A) (used : List Lexeme) (b : A) : Type 0 where
  pub nothing : used ≡ []
  pub same : b ≡ a

-- one token of a class
pub record Token (class : Class) (used : List Lexeme) (t : Lexeme) : Type 0 where
  pub alone : used ≡ t ∷ []
  pub is : same_class t.class class ≡ true

-- one part, and then another
pub record Then {A B : Type 0} (P : List Lexeme → A → Type 0) (Q : A → List Lexeme → B → Type 0) (used : List Lexeme) (b : B) : Type 0 where
  pub front : List Lexeme
  pub value : A
  pub back : List Lexeme
  pub parts : used ≡ front ++ back
  pub before : P front value
  pub after : Q value back b

infixr 10 ◌▸◌
abbrev pub ◌▸◌ : {A B : Type 0} → Grammar A → (A → Grammar B) → Grammar B
P ▸ Q = Then P Q

-- one of two
infixr 8 ◌∣◌
abbrev pub ◌∣◌ : {A : Type 0} → Grammar A → Grammar A → Grammar A
P ∣ Q = λ used a. P used a ⊎ Q used a

-- { step }, from a first value on
pub data Steps {A : Type 0} (step : A → List Lexeme → A → Type 0) : A → List Lexeme → A → Type 0 where
  done : (a : A) → Steps step a [] a
  one_more : (a : A) (front : List Lexeme) (b : A) (back : List Lexeme) (c : A) → step a front b → Steps step b back c → Steps step a (front ++ back) c

-- ---- trees

abbrev pub leaf : Lexeme → Form → Expression
leaf t form = expression t.at t.at form

-- an operator at a place between its operands
abbrev pub between : Place → BinaryWord → Expression → Expression → Expression
between at word a b = expression (first_of a) at (Form.Binary word a b)

-- the tree between parentheses, whose first token is the opening one
abbrev pub opened : Lexeme → Expression → Expression
opened t (expression first at form) = expression t.at at form

-- an expression, and whether it is one prim alone
abbrev pub Term : Type 0
Term = Expression × Bool

-- ---- quantifiers

-- what follows a quantifier's word: its variable, its bounds, and what it says of each number
pub record Scope : Type 0 where
  pub name : NameData
  pub low : Expression
  pub high : Expression
  pub body : Expression

-- ---- conjunctions and disjunctions

-- the operands and the places of the operators so far
abbrev pub Chain : Type 0
Chain = List Expression × List Place

-- ---- levels

-- how many levels may be opened
abbrev pub levels_of_a_text : ℕ
levels_of_a_text = 128
