-- What the trees stand for: plain data, with lists of bytes for texts.
use Rattle.std.specs.Prelude.{ℕ, Bool, List, [], ◌∷◌, Option}
use Rattle.spec_model.specs.declared.spec.Role.{Role}
use Rattle.spectra_trees.specs.declared.tree.Place.{Place}
use Rattle.spectra_trees.specs.declared.tree.OwnerWord.{OwnerWord}
use Rattle.spectra_trees.specs.declared.tree.PrefixWord.{PrefixWord}
use Rattle.spectra_trees.specs.declared.tree.BinaryWord.{BinaryWord}

-- a name as it is written, and where
pub record NameData : Type 0 where
  pub text : List ℕ
  pub line : ℕ
  pub column : ℕ

mutual
  -- an expression: the place of its first token, that of its operator, name, word or number, and what it is made of
  pub data Expression : Type 0 where
    expression : (first at : Place) → Form → Expression

  pub data Form : Type 0 where
    True : Form
    False : Form
    Number : (negative : Bool) → (digits : List ℕ) → Form
    Read : NameData → Form
    Call : NameData → Expressions → Form
    Next : Expression → Form
    Prefix : PrefixWord → Expression → Form
    Binary : BinaryWord → Expression → Expression → Form
    Mod : Expression → Place → (digits : List ℕ) → Form
    And : Expressions → (operators : List Place) → Form
    Or : Expressions → (operators : List Place) → Form
    Index : NameData → Expression → Form
    ForAll : NameData → (low high body : Expression) → Form
    Exists : NameData → (low high body : Expression) → Form

  -- several expressions
  pub data Expressions : Type 0 where
    none : Expressions
    one_more : Expression → Expressions → Expressions

-- the expressions as a list, and back
abbrev pub expressions : List Expression → Expressions
expressions [] = Expressions.none
expressions (e ∷ es) = Expressions.one_more e (expressions es)

abbrev pub listed : Expressions → List Expression
listed Expressions.none = []
listed (Expressions.one_more e es) = e ∷ listed es

abbrev pub first_of : Expression → Place
first_of (expression first at form) = first

pub data TypeShape : Type 0 where
  Boolean : TypeShape
  Range : (low high : Expression) → TypeShape
  Names : List NameData → TypeShape
  Named : NameData → TypeShape

pub record TypeData : Type 0 where
  pub at : Place
  pub form : TypeShape

mutual
  -- a regular expression over positions
  pub data RegexData : Type 0 where
    Atom : Expression → RegexData
    Cat : Regexes → RegexData
    Alt : Regexes → RegexData
    Repeat : RegexData → RepeatData → RegexData

  pub data Regexes : Type 0 where
    none : Regexes
    one_more : RegexData → Regexes → Regexes

  pub data RepeatData : Type 0 where
    Star : RepeatData
    Plus : RepeatData
    Optional : RepeatData
    Exactly : (digits : List ℕ) → RepeatData
    Between : (low high : List ℕ) → RepeatData

abbrev pub regexes : List RegexData → Regexes
regexes [] = Regexes.none
regexes (r ∷ rs) = Regexes.one_more r (regexes rs)

pub data PartShape : Type 0 where
  Own : TypeData → NameData → PartShape
  Initial : Expression → PartShape
  Always : Expression → PartShape
  Recurring : Expression → PartShape

pub record PartData : Type 0 where
  pub at : Place
  pub form : PartShape

pub data BodyData : Type 0 where
  Initial : Expression → BodyData
  Always : Expression → BodyData
  Recurring : Expression → BodyData
  Trigger : Place → (cause effect : RegexData) → BodyData
  Call : NameData → List Expression → BodyData

-- how many elements an array has: the place of the bracket, and the digits as written
pub record LengthData : Type 0 where
  pub bracket : Place
  pub digits : List ℕ

pub record VarData : Type 0 where
  pub at : Place
  pub owner : OwnerWord
  pub domain : TypeData
  pub length : Option LengthData
  pub name : NameData

pub record AliasData : Type 0 where
  pub at : Place
  pub name : NameData
  pub body : TypeData

pub record DefineData : Type 0 where
  pub at : Place
  pub bodies : List (NameData × Expression)

pub record PredicateData : Type 0 where
  pub at : Place
  pub name : NameData
  pub params : List (TypeData × NameData)
  pub body : Expression

pub record PatternData : Type 0 where
  pub at : Place
  pub name : NameData
  pub params : List NameData
  pub parts : List PartData

pub record MonitorData : Type 0 where
  pub at : Place
  pub domain : TypeData
  pub name : NameData
  pub parts : List PartData

pub record LineData : Type 0 where
  pub at : Place
  pub role : Role
  pub name : Option NameData
  pub body : BodyData

pub data ItemData : Type 0 where
  Variable : VarData → ItemData
  Alias : AliasData → ItemData
  Define : DefineData → ItemData
  Predicate : PredicateData → ItemData
  Pattern : PatternData → ItemData
  Monitor : MonitorData → ItemData
  Statement : LineData → ItemData

pub record TreeData : Type 0 where
  pub header : NameData
  pub imports : List NameData
  pub items : List ItemData
